use Rattle.std.proofs.Common.{◌≡◌, ℕ, Ok, Err, Result, sym, refl, ap, arith, leb-false}
use Rattle.common.specs.declared.fault.Fault.{Fault}
use Rattle.sample.specs.Samples.{SampleOf}
use Rattle.engine.specs.Boxes.{Setting, Closing, Box}
use Rattle.engine.specs.Calls.{exhausted, judge, placed}
use Rattle.engine.specs.States.{State}
use Rattle.engine.specs.Views.{setting_of, box_of}
use Rattle.engine.proofs.Judged.{stopped}
use Rattle.engine.proofs.engine.Engine.admit.Goals as goal

-- a frame is counted only after it was placed
same_count : (closing : Closing) (g : Setting) (s : Box) (q : ℕ) (r : Result SampleOf Fault) → (placed closing g s q r).judged ≡ s.judged
same_count closing g s q (Ok x) = refl
same_count closing g s q (Err e) = refl

pub count-requires : goal.count-requires
count-requires g c =
    let s = c.args.self.now in
    let close = g.P.Policy.closing c.args.policy.now in
    let set = setting_of s in
    let b = ap (λ (e : State). e.box.judged) c.accept-verdict.ensures.next in
    let k = same_count close set (box_of s) c.args.port.0 (judge set (box_of s) c.args.port.0 c.args.bytes.now) in
    let m = leb-false 1000000000000000 s.judged (stopped (exhausted (box_of s)) _ _ tt (sym c.in_ok-check_count.ensures)).0 in
    omega (arith, b, k, m)
