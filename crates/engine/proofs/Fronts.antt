-- How far the front moves.
use Rattle.std.proofs.Common.{◌≡◌, ℕ, zero, suc, ◌+◌, ◌-◌, ◌*◌, ◌<◌, ◌≤◌, max, List, [], ◌∷◌, length, subst, Bool, true, false, cond, not, Some, None, Option, sym, refl, ap, ◌∙◌, mul-le-mul_right, add-one, arith}
use Rattle.std.specs.Option.{option_map, option_map_or, unwrap_or}
use Rattle.std.specs.Range.{range_steps_back}
use Rattle.std.specs.declared.ops.Range.{Range}
use Rattle.std.proofs.lemmas.Iterator.{YieldsList}
use Rattle.std.proofs.lemmas.Iterator.Consumers.{YieldsList-from_shown}
use Rattle.std.specs.List.{find, range_with_len}
use Rattle.slots.specs.Slots.{first_slot, last_slot_at}
use Rattle.engine.specs.Closing.{highest, beyond}

-- a slot whose stamp is not after a reading in use is below 4,000,000,001 seconds' slots
pub near : (F r : ℕ) → 0 < F → r ≤ 4000000000100000 → last_slot_at F r + 1 ≤ 4000000001 * F
near F r p h =
    let m : (r + 1) * F ≤ 4000000000100001 * F = mul-le-mul_right F (omega arith) in
    omega (arith, m)

-- and so is the first slot of a reading in use
pub first-near : (F r : ℕ) → 0 < F → r ≤ 4000000000000000 → first_slot F r ≤ 4000000001 * F
first-near F r p h = let m : r * F ≤ 4000000000000000 * F = mul-le-mul_right F h in omega (arith, m)

-- the numbers from a on, n of them, the highest first
abbrev pub downto : ℕ → ℕ → List ℕ
downto a zero = []
downto a (suc n) = (a + n) ∷ downto a n

one-less : (a b m n x : ℕ) → n ≡ suc m → x ≡ a + m → a ≡ b → downto a n ≡ x ∷ downto b m
one-less a b m n x e f g = ap (downto a) e ∙ (ap (λ y. y ∷ downto a m) (sym f) ∙ ap (λ y. x ∷ downto y m) g)

-- what holds a range and gives its numbers from the end
module _ {S : Type 0} (source : S → Range ℕ) where
  abbrev back : S → Option ℕ → S → Type 0
  back s r t = range_steps_back (λ x y. y - x) (λ x y. y ≡ x + 1) (source s) r (source t)

  abbrev left : S → List ℕ
  left s = downto (source s).start ((source s).end - (source s).start)

  pub backwards : {s : S} (a b n : ℕ) → source s ≡ record { start = a; end = b } → b - a ≡ n → YieldsList back (λ x. x) s (downto a n)
  backwards {s} a b n e f =
      subst (YieldsList back (λ x. x) s) (ap (λ (r : Range ℕ). downto r.start (r.end - r.start)) e ∙ ap (downto a) f)
      (YieldsList-from_shown back (λ x. x) left
      (λ u t p. ap (λ n. length (downto (source u).start n)) p.1.0)
      (λ u x t p. one-less (source u).start (source t).start _ _ x (omega (arith, p.0, p.1.0, p.1.2)) (omega (arith, p.0, p.1.0, p.1.1, p.1.2)) (sym p.0)) s)

module _ (t : ℕ → Bool) where
  -- ---- past those that pass
  -- the first from f on that does not pass, as a search through the numbers finds it
  found-beyond : (j f d : ℕ) → d ≡ f + j → unwrap_or (find (λ n. not (t n)) (range_with_len f j)) d ≡ beyond t j f
  unfolding beyond
  found-beyond zero f d e = omega (arith, e)
  found-beyond (suc j) f d e = by (t f) (found-beyond j (f + 1) d (omega (arith, e)))
    where
      by : (b : Bool) → unwrap_or (find (λ n. not (t n)) (range_with_len (f + 1) j)) d ≡ beyond t j (f + 1)
          → unwrap_or (cond (not b) (Some f) (find (λ n. not (t n)) (range_with_len (f + 1) j))) d ≡ cond b (beyond t j (suc f)) f
      by true h = h ∙ ap (beyond t j) (add-one f)
      by false h = refl

  pub told-beyond : (r : Option ℕ) (j f d : ℕ) → option_map (λ x. x) r ≡ find (λ n. not (t n)) (range_with_len f j) → d ≡ f + j → unwrap_or r d ≡ beyond t j f
  told-beyond (Some x) j f d e h = ap (λ o. unwrap_or o d) e ∙ found-beyond j f d h
  told-beyond None j f d e h = ap (λ o. unwrap_or o d) e ∙ found-beyond j f d h

  pub beyond-stays : (j f : ℕ) → t f ≡ false → beyond t j f ≡ f
  unfolding beyond
  beyond-stays zero f h = refl
  beyond-stays (suc j) f h = rw h refl

  pub beyond-within : (j f : ℕ) → beyond t j f ≤ f + j
  unfolding beyond
  beyond-within zero f = omega arith
  beyond-within (suc j) f = by (t f) (beyond-within j (suc f))
    where
      by : (b : Bool) → beyond t j (suc f) ≤ suc f + j → cond b (beyond t j (suc f)) f ≤ f + suc j
      by true h = omega (arith, h)
      by false h = omega arith

  -- ---- past the highest that passes
  highest_here : (k : ℕ) → t k ≡ true → highest t (k + 1) ≡ k + 1
  unfolding highest
  highest_here k e = rw (add-one, e)

  highest_less : (k : ℕ) → t k ≡ false → highest t (k + 1) ≡ highest t k
  unfolding highest
  highest_less k e = rw (add-one, e)

  pub highest-within : (k : ℕ) → highest t k ≤ k
  unfolding highest
  highest-within zero = omega arith
  highest-within (suc k) = by (t k) (highest-within k)
    where
      by : (b : Bool) → highest t k ≤ k → cond b (suc k) (highest t k) ≤ suc k
      by true h = omega arith
      by false h = omega arith

  found-highest : (n a k : ℕ) → n ≡ k - a → option_map_or (λ m. m + 1) (find t (downto a n)) a ≡ max a (highest t k)
  found-highest zero a k e = let w = highest-within k in omega (arith, w, e)
  found-highest (suc n) a k e = by (t (a + n)) refl (found-highest n a (a + n) (omega arith))
    where
      same : k ≡ a + n + 1
      same = omega (arith, e)

      by : (b : Bool) → t (a + n) ≡ b → option_map_or (λ m. m + 1) (find t (downto a n)) a ≡ max a (highest t (a + n))
          → option_map_or (λ m. m + 1) (cond b (Some (a + n)) (find t (downto a n))) a ≡ max a (highest t k)
      by true p h = let top = ap (highest t) same ∙ highest_here (a + n) p in omega (arith, top)
      by false p h = h ∙ ap (max a) (sym (ap (highest t) same ∙ highest_less (a + n) p))

  pub told-highest : (r : Option ℕ) (n a k : ℕ) → option_map (λ x. x) r ≡ find t (downto a n) → n ≡ k - a → option_map_or (λ m. m + 1) r a ≡ max a (highest t k)
  told-highest (Some x) n a k e h = ap (λ o. option_map_or (λ m. m + 1) o a) e ∙ found-highest n a k h
  told-highest None n a k e h = ap (λ o. option_map_or (λ m. m + 1) o a) e ∙ found-highest n a k h
