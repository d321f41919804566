use Rattle.std.proofs.Common.{rules, take, drop, replicate, refl, ap, ◌∙◌, ◌≡◌, Ok, [], false, true, ℕ, length, List}
use Rattle.feed_checks.specs.Checks.{IsNext, is_filled}
use Rattle.feed.specs.Calls.{first_taken}
use Rattle.feed_checks.proofs.Found.{first_is, front_is, rest_is, filled_on, if_ok, if_err}
use Rattle.std.proofs.lemmas.Result.{IfErr-weaker}
use Rattle.feed_checks.proofs.calls.check_next.Goals as goal

pub returns-clause-next : goal.returns-clause-next
returns-clause-next g c =
    let ws = (g.F.Feed.meaning c.args.feed.now).waits [] in
    let t = c.in_ok-taken.taken in
    let told : first_taken ws ≡ Ok t = search rules in
    let port : t.port.0 ≡ c.args.port = search rules in
    let front : take t.len c.next.new.buffer ≡ c.args.frame.now = search rules in
    let first = first_is ws t _ c.next.new.buffer told c.next.ensures.frame in
    if_ok c.check_filled.result (rw (← port, ← front) first)

pub returns-in_err-check-3-clause-other : goal.returns-in_err-check-3-clause-other
returns-in_err-check-3-clause-other g c =
    let ws = (g.F.Feed.meaning c.args.feed.now).waits [] in
    if_err c.from_residual-in_err-check-3.result (λ (n : IsNext ws c.args.port c.args.frame.now).
    let front : take (length c.args.frame.now) c.next.new.buffer ≡ c.args.frame.now = front_is ws c.args.port c.args.frame.now _ c.next.new.buffer n c.next.ensures.frame in
    let none : ⊥ = search rules in none)

pub returns-clause-other : goal.returns-clause-other
returns-clause-other g c =
    let ws = (g.F.Feed.meaning c.args.feed.now).waits [] in
    let frame = c.args.frame.now in
    let rest = c.in_ok-front.rest.now in
    let behind : rest ≡ drop (length frame) c.next.new.buffer = search rules in
    IfErr-weaker c.check_filled.result (λ _. is_filled rest ≡ false) (λ _. IsNext ws c.args.port frame → ⊥) (λ _ changed n.
    let before : List ℕ = replicate 1040 85 in
    let same : rest ≡ drop (length frame) before = behind ∙ rest_is ws c.args.port frame before c.next.new.buffer n c.next.ensures.frame in
    let filled : is_filled rest ≡ true = ap is_filled same ∙ filled_on (length frame) before refl in
    let none : ⊥ = search rules in none) c.check_filled.ensures.err
