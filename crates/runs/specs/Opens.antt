-- What a concentrator can be opened with, and what is known of it then.
use Rattle.std.specs.Prelude.{◌≡◌, ℕ, ◌+◌, ◌<◌, ◌≤◌, Bool, true, false, cond, not, ◌&&◌, ◌||◌, length, Some, None, Option, ◌==◌, nat_le, nat_lt}
use Rattle.std.proofs.Common.{refl, arith, ltb-false, leb-true}
use borrow.Author.Tests.{eqb-false, not-false}
use Rattle.common.specs.declared.fault.Fault.{Fault}
use Rattle.common.specs.declared.fault.Fault.TheVariants.{WaitTooLong}
use Rattle.plan.specs.Plans.{PlanOf}
use Rattle.slots.specs.Slots.{window_fits}
use Rattle.engine.specs.Boxes.{Closing}
use Rattle.engine.specs.Calls.{open_fault, open_setting}
use Rattle.runs.specs.Settings.{Opened}

-- a plan that opens at a reading, under closings that are not before the stamp and not after the stamp plus the bound
pub record Opens (p : PlanOf) (closing : Closing) (bound reading : ℕ) : Type 0 where
  pub unrefused : open_fault p bound reading ≡ None
  pub from : (t : ℕ) (a : Option ℕ) → t ≤ closing t a
  pub within : (t : ℕ) (a : Option ℕ) → closing t a ≤ t + bound

-- where a check and those behind it gave no refusal, it did not fail, and those behind it gave none
passed : (b : Bool) (f : Fault) (r : Option Fault) → cond b (Some f) r ≡ None → (b ≡ false) × (r ≡ None)
passed true f r e = absurd (let z : ◌≡◌ {A = ℕ} 0 1 = cc in let n : ⊥ = omega arith in n)
passed false f r e = (refl, e)

-- where a last check gave no refusal, it holds
held : (b : Bool) (f : Fault) → cond b None (Some f) ≡ None → b ≡ true
held true f e = refl
held false f e = absurd (let z : ◌≡◌ {A = ℕ} 0 1 = cc in let n : ⊥ = omega arith in n)

-- where not even one of two holds, neither does
neither : (a b : Bool) → (a || b) ≡ false → (a ≡ false) × (b ≡ false)
neither true b e = absurd (let z : ◌≡◌ {A = ℕ} 0 1 = cc in let n : ⊥ = omega arith in n)
neither false b e = (refl, e)

-- if both hold, the first does
left_true : (a b : Bool) → (a && b) ≡ true → a ≡ true
left_true true b e = refl
left_true false b e = e

-- what is not 0 is above it
some : (n : ℕ) → (n ≡ 0 → ⊥) → 0 < n
some n h = omega (arith, h)

-- of an engine that such a plan opens all is known that the law needs
pub opened-facts : (p : PlanOf) (closing : Closing) (bound reading : ℕ) → Opens p closing bound reading → Opened (open_setting p reading) closing bound reading
opened-facts p closing bound reading o =
    let a = passed (nat_lt 4000000000000000 reading) _ _ o.unrefused in
    let b = passed (length p.ports == 0 || not (nat_le 1 p.rate && nat_le p.rate 120)) _ _ a.1 in
    let c = neither (length p.ports == 0) (not (nat_le 1 p.rate && nat_le p.rate 120)) b.0 in
    let r : 1 ≤ p.rate = leb-true 1 p.rate (left_true (nat_le 1 p.rate) (nat_le p.rate 120) (not-false (nat_le 1 p.rate && nat_le p.rate 120) c.1)) in
    record {
      ports = some (length p.ports) (eqb-false (length p.ports) 0 c.0);
      rate = omega (arith, r);
      fits = held (window_fits p.rate bound) WaitTooLong b.1;
      usable = ltb-false 4000000000000000 reading a.0;
      first = refl;
      from = o.from;
      within = o.within;
    }
