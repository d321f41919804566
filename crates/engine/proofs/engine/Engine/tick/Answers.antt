use Rattle.std.proofs.Common.{◌≡◌, ℕ, ◌+◌, ◌≤◌, max, Ok, sym, ap, ◌∙◌, arith, le-ltb}
use Rattle.engine.specs.Boxes.{Box}
use Rattle.engine.specs.Closing.{settled}
use Rattle.engine.specs.Calls.{tick_by, tick_said, ticked, timed}
use Rattle.engine.specs.States.{with_box}
use Rattle.engine.specs.Views.{setting_of, box_of, state_of}
use Rattle.engine.proofs.Shuts.{opens, left_open}
use Rattle.engine.proofs.engine.Engine.tick.Goals as goal

passes : (s : Box) (r : ℕ) → r ≤ 4000000000000000 → r ≤ s.latest + 60000000 → tick_said s r ≡ Ok (max r s.latest)
passes s r h k = rw (le-ltb 4000000000000000 r h, le-ltb (s.latest + 60000000) r k)

pub returns-clause-next : goal.returns-clause-next
returns-clause-next g c =
    let s = c.args.self.now in
    let close = g.P.Policy.closing c.args.policy.now in
    let o = opens s.terms.shut c.in_ok-check.field-0 c.in_ok-check.ensures in
    let said = passes (box_of s) c.args.reading (omega arith) (omega arith) in
    let latest : c.max-latest.result ≡ max c.args.reading s.latest = omega (arith, c.max-latest.ensures) in
    c.settle.ensures
    ∙ (ap (λ n. with_box (state_of s) (settled close (setting_of s) (timed (box_of s) n))) latest
    ∙ (ap (λ r. with_box (state_of s) (tick_by close (setting_of s) (box_of s) r)) (sym said)
    ∙ left_open (state_of s) (ticked close (setting_of s) (box_of s) c.args.reading) o))
