-- The bytes of a port in a written frame are the block of that port.
use Rattle.std.proofs.Common.{◌≡◌, ℕ, zero, suc, ◌<◌, List, ◌++◌, length, take, drop, sym, refl, ap, ◌∙◌, inl, inr, append_assoc, arith, length-append}
use lib.Seq.{take-append_seam, drop-append_seam}
use Rattle.std.proofs.lemmas.Bool.{cases_eq}
use Rattle.laws.specs.Setting.{Contents}
use Rattle.laws.specs.Bytes.{Layout, body, laid_out, offset, part}

body-length : (L : Layout) (x : Contents) (k : ℕ) → length (body L x k) ≡ offset L k
body-length L x zero = refl
body-length L x (suc k) =
    let ih = body-length L x k in
    let s = L.sized k (x k) in
    length-append (body L x k) (L.block k (x k)) ∙ rw (ih, s)

block_at : (L : Layout) (x : Contents) (k q : ℕ) (rest : List ℕ) → q < k → take (L.width q) (drop (offset L q) (body L x k ++ rest)) ≡ L.block q (x q)
block_at L x zero q rest h = let no : ⊥ = omega arith in absurd no
block_at L x (suc k) q rest h = elim (cases_eq q k) [
  | inr ne ↦ rw (append_assoc (body L x k) (L.block k (x k)) rest) (block_at L x k q (L.block k (x k) ++ rest) (omega arith))
  | inl e ↦ rw (e, append_assoc (body L x k) (L.block k (x k)) rest, ← body-length L x k, drop-append_seam (body L x k) (L.block k (x k) ++ rest), ← L.sized k (x k)) (take-append_seam (L.block k (x k)) rest)
]

pub part_is : (L : Layout) (ports n : ℕ) (x : Contents) (q : ℕ) → q < ports → part L q (laid_out L ports n x) ≡ L.block q (x q)
part_is L ports n x q h =
    ap (λ z. take (L.width q) (drop (offset L q) z)) (ap (λ z. drop z (laid_out L ports n x)) (sym (L.headed n x)) ∙ drop-append_seam (L.head n x) (body L x ports ++ L.tail n x))
    ∙ block_at L x ports q (L.tail n x) h
