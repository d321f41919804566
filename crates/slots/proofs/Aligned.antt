-- The laws of alignment.
use Rattle.std.proofs.Common.{◌≡◌, ℕ, ◌+◌, ◌-◌, ◌*◌, ◌/◌, ◌%◌, ◌<◌, ◌≤◌, cond, eqb, ltb, Some, None, Option, sym, ap, ◌∙◌, inl, inr, mul-le-mul_right, div-add-mod', arith}
use Rattle.std.proofs.lemmas.Grind.{common_steps}
use Rattle.std.proofs.lemmas.Nat.{mod_below}
use Rattle.std.proofs.lemmas.Bool.{cases_lt, cases_order, lt-ltb, le-ltb, ne_eqb, cond-true, cond-false}
use Rattle.std.specs.Option.{option_map}
use Rattle.std.specs.Bool.{then_some}
use Rattle.slots.specs.Slots.{nearest, in_second, place_of}
use Rattle.slots.specs.Laws.{AlignedBelongs, BelongsAligns, UniquePlace}

-- two multiples of TB that are both less than F away from x are the same
same : (F TB x j k : ℕ) → 2 * F ≤ TB → j < k → k * TB < x + F → x < j * TB + F → ⊥
same F TB x j k wide h a b = grind arith

pub unique_place : UniquePlace
unique_place F TB f j k wide a b = grind (arith, common_steps, same)

-- k time bases are less than F away from x
abbrev Near : ℕ → ℕ → ℕ → ℕ → Type 0
Near F TB x k = (k * TB < x + F) × (x < k * TB + F)

-- the tests of `nearest`, from the last
abbrev upper : ℕ → ℕ → ℕ → Option ℕ
upper F TB x = cond (ltb (TB - x % TB) F) (Some (x / TB + 1)) None

abbrev lower : ℕ → ℕ → ℕ → Option ℕ
lower F TB x = cond (ltb (x % TB) F) (Some (x / TB)) (upper F TB x)

-- the number of time bases that is less than F away is the nearest
module _ (F TB x : ℕ) (pos : 0 < F) (some : 0 < TB) where
  chosen : nearest x TB F ≡ lower F TB x
  chosen = cond-false (eqb TB 0) None (lower F TB x) (ne_eqb TB 0 (λ e. omega arith))

  split : x / TB * TB + x % TB ≡ x
  split = div-add-mod' x TB

  short : x % TB < TB
  short = mod_below x TB (omega arith)

  near-nearest : (k : ℕ) → 2 * F ≤ TB → Near F TB x k → nearest x TB F ≡ Some k
  near-nearest k wide (a, b) =
      let s = split in
      let r = short in
      elim (cases_lt (x % TB) F) [
        | inl h ↦ let e : x / TB ≡ k =
            elim (cases_order (x / TB) k) [
              | inl e ↦ e
              | inr (inl l) ↦ absurd (same F TB x (x / TB) k wide l a (omega arith))
              | inr (inr l) ↦ absurd (same F TB x k (x / TB) wide l (omega arith) b)
            ] in
            chosen ∙ (cond-true (ltb (x % TB) F) (Some (x / TB)) (upper F TB x) (lt-ltb (x % TB) F h) ∙ ap Some e)
        | inr h ↦ let up : x / TB < k =
            elim (cases_lt (x / TB) k) [ inl l ↦ l | inr l ↦ let m = mul-le-mul_right TB l in absurd (omega arith) ] in
            let one : k ≡ x / TB + 1 =
            elim (cases_lt (x / TB + 1) k) [ inl l ↦ let m = mul-le-mul_right TB l in absurd (omega arith) | inr l ↦ omega arith ] in
            let m = ap (λ y. y * TB) one in
            chosen
            ∙ (cond-false (ltb (x % TB) F) (Some (x / TB)) (upper F TB x) (le-ltb (x % TB) F h)
            ∙ (cond-true (ltb (TB - x % TB) F) (Some (x / TB + 1)) None (lt-ltb (TB - x % TB) F (omega arith)) ∙ ap Some (sym one)))
      ]

pub belongs_aligns : BelongsAligns
belongs_aligns F TB s f k pos wide b =
    let e = near-nearest F TB (f * F) pos (omega arith) k wide (b.above, b.below) in
    let w : place_of F TB f ≡ Some k = ap (in_second F) e ∙ ap (λ t. then_some t k) (lt-ltb k F b.within) in
    ap (option_map (λ k. s * F + k)) w

pub aligned_belongs : AlignedBelongs
aligned_belongs F TB s f n pos p = grind (arith, common_steps)
