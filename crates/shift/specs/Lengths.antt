-- A shift keeps a frame's length.
use Rattle.std.specs.Prelude.{◌≡◌, ℕ, ◌+◌, ◌-◌, ◌≤◌, List, length, take, ℤ, Some, None, Option, nat_lt, refl}
use Rattle.std.proofs.Common.{◌∙◌, arith, length-append, length-drop, length-take}
use Rattle.std.proofs.lemmas.Bool.{cond_both, leb-true, ltb-false}
use Rattle.fields.specs.Fields.{fits, put, bytes32, written}
use Rattle.wire.specs.Frames.{sealed, resealed}
use Rattle.shift.specs.Shifts.{stamped, target, shifted}

-- bytes put where there is room for them leave the length as it was
pub length-put : (xs bs : List ℕ) (i : ℕ) → i + length bs ≤ length xs → length (put xs i bs) ≡ length xs
length-put xs bs i h = simp (length-append, length-take, length-drop) (omega arith)

-- bytes put anywhere leave the length as it was
length-written : (xs bs : List ℕ) (i : ℕ) → length (written xs i bs) ≡ length xs
length-written xs bs i =
    cond_both (fits xs i (length bs)) (put xs i bs) xs (λ ys. length ys ≡ length xs)
    (λ e. length-put xs bs i (leb-true (i + length bs) (length xs) e)) (λ e. refl)

-- a fresh check word leaves the length of two bytes or more as it was
length-resealed-long : (xs : List ℕ) → 2 ≤ length xs → length (sealed (take (length xs - 2) xs)) ≡ length xs
unfolding sealed
length-resealed-long xs h = simp (length-append, length-take) (omega arith)

-- and so of any bytes
length-resealed : (xs : List ℕ) → length (resealed xs) ≡ length xs
length-resealed xs =
    cond_both (nat_lt (length xs) 2) xs (sealed (take (length xs - 2) xs)) (λ ys. length ys ≡ length xs)
    (λ e. refl) (λ e. length-resealed-long xs (ltb-false (length xs) 2 e))

-- a frame that gets another SOC and a fresh check word is as long as before
pub length-stamped : (soc : Option ℕ) (bs : List ℕ) → length (stamped soc bs) ≡ length bs
length-stamped None bs = refl
length-stamped (Some soc) bs = length-resealed (written bs 6 (bytes32 soc)) ∙ length-written bs (bytes32 soc) 6

-- no shift changes how long a frame is, sound or not
pub length-shifted : (z : ℤ) (bs : List ℕ) → length (shifted z bs) ≡ length bs
length-shifted z bs = length-stamped (target z bs) bs
