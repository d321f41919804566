use Rattle.std.proofs.Common.{rules, tests, ◌≡◌, ℕ, nat_eq}
use Rattle.std.proofs.lemmas.Iterator.{YieldsList-from_slice}
use Rattle.std.proofs.lemmas.Iterator.Search.{all_from_yields_List}
use Rattle.feed_checks.specs.Checks.{is_filled}
use Rattle.feed_checks.proofs.calls.check_filled.Goals as goal

pub returns-clause-ok : goal.returns-clause-ok
returns-clause-ok c =
    let xs = c.args.bytes.now in
    let same : c.all-same.result ≡ is_filled xs = all_from_yields_List (λ (b : ℕ). nat_eq b 85) _ _ c.all-same.result c.all-same.ensures.ran (YieldsList-from_slice xs cc) (λ x b q k. search (rules, tests)) in
    search rules
