-- A stored column is the list of what its rule gives for 0 to 255.
use Rattle.std.proofs.Common.{◌≡◌, ℕ, ◌<◌, List, map, get_or, ap, ◌∙◌, zero-add}
use Rattle.std.specs.List.{range_with_len}
use Rattle.std.proofs.lemmas.List.FromFn.{get_or-map-range_with_len}

pub rule : (f : ℕ → ℕ) (xs : List ℕ) (i j : ℕ) → j < 256 → i ≡ j → xs ≡ map f (range_with_len 0 256) → get_or xs i 0 ≡ f j
rule f xs i j h same e =
    ap (λ k. get_or xs k 0) same ∙ (ap (λ ws. get_or ws j 0) e ∙ get_or-map-range_with_len f 0 256 j j 0 h (zero-add j))
