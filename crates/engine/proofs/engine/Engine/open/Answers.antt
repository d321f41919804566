use Rattle.std.proofs.Common.{◌≡◌, ℕ, None, sym, ap, ◌∙◌, arith}
use Rattle.plan.specs.Views.{plan_of}
use Rattle.slots.specs.Slots.{frames_of, first_slot}
use Rattle.engine.specs.Boxes.{Setting}
use Rattle.engine.specs.Closing.{settled}
use Rattle.engine.specs.Calls.{begun}
use Rattle.engine.specs.States.{State, with_box}
use Rattle.engine.proofs.Fronts.{first-near}
use Rattle.engine.proofs.engine.Engine.open.Goals as goal

pub begin-engine-requires-clause-near : goal.begin-engine-requires-clause-near
begin-engine-requires-clause-near g c =
    let near = first-near (frames_of c.in-Ok.rate) c.args.reading c.in-Ok.rate.some c.in-Ok.ensures.2 in
    omega (arith, near, c.first_slot.ensures.answer)

pub returns-in-Ok : goal.returns-in-Ok
returns-in-Ok g c =
    let p = c.in-Ok.ensures in
    let close = g.P.Policy.closing c.args.policy.now in
    let plan = plan_of c.args.plan.now in
    let rate = p.1 in
    let first : c.first_slot.result ≡ first_slot plan.rate c.args.reading =
    c.first_slot.ensures.answer ∙ ap (λ F. first_slot F c.args.reading) rate in
    let made : ℕ → ℕ → Setting = λ F n. record { id = plan.id; rate = F; ports = plan.ports; first = n } in
    let own = ap (λ F. made F c.first_slot.result) rate ∙ ap (made plan.rate) first in
    let opened_with : State → State = λ e. with_box e (settled close e.setting e.box) in
    let next = c.settle.ensures ∙ (ap opened_with c.begin-engine.ensures ∙ ap (λ (t : Setting). opened_with (record { shut = None; plan = c.args.plan.now; setting = t; box = begun t c.args.reading })) own) in
    record { shut = ap (λ (e : State). e.shut) next ∙ (sym p.0 ∙ cc); opens = λ _. next }
