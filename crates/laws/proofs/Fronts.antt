-- The two searches that move the front, and what is held of all ports.
use Rattle.std.proofs.Common.{◌≡◌, ℕ, zero, suc, ◌+◌, ◌<◌, ◌≤◌, Bool, true, false, ◌⊎◌, is_some, refl, inl, inr, arith}
use Rattle.std.proofs.lemmas.Bool.{cases_Bool, cases_eq, and_parts, and_from, both_ways}
use Rattle.laws.specs.Setting.{Contents}
use Rattle.laws.specs.Machine.{highest, beyond, all_held}

pub highest-above : (r : ℕ → Bool) (k n : ℕ) → n < k → r n ≡ true → n < highest r k
unfolding highest
highest-above r zero n h t = let no : ⊥ = omega arith in absurd no
highest-above r (suc k) n h t = elim (cases_Bool (r k)) [
  | inl e ↦ rw e (omega arith)
  | inr e ↦ rw e (highest-above r k n (elim (cases_eq n k) [ inl q ↦ absurd (both_ways (r k) e (rw q at t)) | inr q ↦ omega arith ]) t)
]

pub highest_why : (r : ℕ → Bool) (k n : ℕ) → n < highest r k → (m : ℕ) × (n ≤ m) × (r m ≡ true)
unfolding highest
highest_why r zero n h = let no : ⊥ = omega arith in absurd no
highest_why r (suc k) n h = elim (cases_Bool (r k)) [
  | inl e ↦ let h' : n < suc k = rw e at h in (k, omega arith, e)
  | inr e ↦ highest_why r k n (rw e at h)
]

pub beyond_up : (r : ℕ → Bool) (k f : ℕ) → f ≤ beyond r k f
unfolding beyond
beyond_up r zero f = omega arith
beyond_up r (suc k) f = elim (cases_Bool (r f)) [
  | inl e ↦ rw e (let u = beyond_up r k (suc f) in omega arith)
  | inr e ↦ rw e (omega arith)
]

pub beyond_why : (r : ℕ → Bool) (k f n : ℕ) → f ≤ n → n < beyond r k f → r n ≡ true
unfolding beyond
beyond_why r zero f n a b = let no : ⊥ = omega arith in absurd no
beyond_why r (suc k) f n a b = elim (cases_Bool (r f)) [
  | inl e ↦ elim (cases_eq f n) [ inl q ↦ rw q at e | inr q ↦ beyond_why r k (suc f) n (omega arith) (rw e at b) ]
  | inr e ↦ let b' : n < f = rw e at b in let no : ⊥ = omega arith in absurd no
]

pub beyond-stop : (r : ℕ → Bool) (k f : ℕ) → (r (beyond r k f) ≡ false) ⊎ (f + k ≤ beyond r k f)
unfolding beyond
beyond-stop r zero f = inr (omega arith)
beyond-stop r (suc k) f = elim (cases_Bool (r f)) [
  | inl e ↦ rw e (elim (beyond-stop r k (suc f)) [ inl h ↦ inl h | inr h ↦ inr (omega arith) ])
  | inr e ↦ rw e (inl e)
]

pub all_of : (x : Contents) (k p : ℕ) → all_held x k ≡ true → p < k → is_some (x p) ≡ true
all_of x zero p h l = let no : ⊥ = omega arith in absurd no
all_of x (suc k) p h l =
    let hs = and_parts (is_some (x k)) (all_held x k) h in
    elim (cases_eq p k) [ inl q ↦ rw q hs.0 | inr q ↦ all_of x k p hs.1 (omega arith) ]

pub all_from : (x : Contents) (k : ℕ) → ((p : ℕ) → p < k → is_some (x p) ≡ true) → all_held x k ≡ true
all_from x zero h = refl
all_from x (suc k) h = and_from (is_some (x k)) (all_held x k) (h k (omega arith)) (all_from x k (λ p l. h p (omega arith)))
