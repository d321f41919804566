-- One more in a list of counts.
use Rattle.std.proofs.Common.{◌≡◌, ℕ, ◌+◌, ◌<◌, eqb, List, length, get_or, set, sym, ap, ◌∙◌, inl, inr, add-zero, eq-eqb, ne_eqb}
use mathlib.Core.Path.{fun_ext}
use Rattle.std.proofs.lemmas.List.{get_or-set_same, get_or-set_other}
use Rattle.std.proofs.lemmas.Bool.{cases_eq}
use Rattle.engine.specs.Calls.{one}

pub raised_counts : (xs : List ℕ) (i : ℕ) → i < length xs → ◌≡◌ {A = ℕ → ℕ} (λ u. get_or (set xs i (get_or xs i 0 + 1)) u 0) (λ u. get_or xs u 0 + one (eqb i u))
raised_counts xs i h =
    fun_ext (λ u.
    elim (cases_eq u i) [
      | inl s ↦ rw (eq-eqb i u (sym s)) (ap (λ k. get_or (set xs i (get_or xs i 0 + 1)) k 0) s ∙ (get_or-set_same xs i (get_or xs i 0 + 1) 0 h ∙ ap (λ k. get_or xs k 0 + 1) (sym s)))
      | inr d ↦ rw (ne_eqb i u (λ s. d (sym s))) (get_or-set_other xs i u (get_or xs i 0 + 1) 0 d ∙ sym (add-zero (get_or xs u 0)))
    ])
