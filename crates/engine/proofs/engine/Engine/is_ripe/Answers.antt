use Rattle.std.proofs.Common.{◌≡◌, ℕ, ◌-◌, ◌^◌, min, ap, ◌∙◌, arith}
use Rattle.slots.specs.Slots.{frames_of, stamp_of}
use Rattle.policy.specs.Policies.{held}
use Rattle.engine.proofs.engine.Engine.is_ripe.Goals as goal

-- a number that is capped twice is capped by the lower cap
twice : (x : ℕ) → held (min x (2 ^ 64 - 1)) ≡ held x
twice x = omega arith

pub returns : goal.returns
returns g c =
    let s = c.args.self.now in
    let close = g.P.Policy.closing c.args.policy.now in
    let e : held c.stamp-stamp.result ≡ held (stamp_of (frames_of s.terms.rate) c.args.slot) = ap held c.stamp-stamp.ensures.answer ∙ twice (stamp_of (frames_of s.terms.rate) c.args.slot) in
    let a = c.arrival_of.ensures in
    let k = c.closes_at.ensures in
    cc
