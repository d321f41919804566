-- A frame with another SOC and a fresh check word, byte by byte.
use Rattle.std.proofs.Common.{◌≡◌, ℕ, ◌+◌, ◌-◌, ◌*◌, ◌^◌, ◌<◌, ◌≤◌, true, ltb, List, ◌++◌, length, get_or, take, drop, Some, sym, refl, ap, ◌∙◌, arith, length-drop, length-take}
use Rattle.std.proofs.lemmas.List.{ext_get_or, get_or_append_left, get_or-append_right, get_or-take, get_or-drop, length-take-le}
use Rattle.std.proofs.lemmas.Bool.{cond-true, cond-false, le-leb, le-ltb}
use Rattle.crc.specs.CheckWord.{check_word_of}
use Rattle.fields.specs.Fields.{be32, fits, put, bytes16, bytes32}
use Rattle.fields.proofs.Numbers.{number32}
use Rattle.wire.specs.Frames.{body_of, checks, sealed, resealed}
use Rattle.wire.proofs.Seals.{sealed-checks}
use Rattle.shift.specs.Shifts.{stamped}
use Rattle.shift.specs.Lengths.{length-put, length-stamped}
use Rattle.shift.proofs.Sound.{Alike}

-- the bytes before a write, the written ones and those behind it
module _ (xs ws : List ℕ) (at : ℕ) (room : at ≤ length xs) where
  front : length (take at xs) ≡ at
  front = length-take-le at xs room

  put-before : (i : ℕ) → i < at → get_or (put xs at ws) i 0 ≡ get_or xs i 0
  put-before i h =
      get_or_append_left (take at xs) (ws ++ drop (at + length ws) xs) 0 i (omega (arith, front)) ∙ get_or-take at xs i 0 h

  put_in : (k : ℕ) → k < length ws → get_or (put xs at ws) (at + k) 0 ≡ get_or ws k 0
  put_in k h =
      let e : at + k - at ≡ k = omega arith in
      get_or-append_right (take at xs) (ws ++ drop (at + length ws) xs) at (at + k) 0 front (omega arith)
      ∙ (ap (λ m. get_or (ws ++ drop (at + length ws) xs) m 0) e ∙ get_or_append_left ws (drop (at + length ws) xs) 0 k h)

  put-behind : (i : ℕ) → at + length ws ≤ i → get_or (put xs at ws) i 0 ≡ get_or xs i 0
  put-behind i h =
      let e : at + length ws + (i - at - length ws) ≡ i = omega arith in
      get_or-append_right (take at xs) (ws ++ drop (at + length ws) xs) at i 0 front (omega arith)
      ∙ (get_or-append_right ws (drop (at + length ws) xs) (length ws) (i - at) 0 refl (omega arith)
      ∙ (get_or-drop (at + length ws) xs (i - at - length ws) 0 ∙ ap (λ m. get_or xs m 0) e))

length-body : (xs : List ℕ) → length (body_of xs) ≡ length xs - 16
length-body xs = simp (length-take, length-drop) (omega arith)

body_at : (xs : List ℕ) (i : ℕ) → i < length xs - 16 → get_or (body_of xs) i 0 ≡ get_or xs (14 + i) 0
body_at xs i h = get_or-take (length xs - 16) (drop 14 xs) i 0 h ∙ get_or-drop 14 xs i 0

module _ (bs : List ℕ) (soc : ℕ) (long : 16 ≤ length bs) where
  abbrev moved : List ℕ
  moved = put bs 6 (bytes32 soc)

  abbrev whole : List ℕ
  whole = stamped (Some soc) bs

  length_moved : length moved ≡ length bs
  length_moved = length-put bs (bytes32 soc) 6 (omega arith)

  is_sealed : whole ≡ sealed (take (length bs - 2) moved)
  is_sealed =
      let n = length_moved in
      ap resealed (cond-true (fits bs 6 4) moved bs (le-leb 10 (length bs) (omega arith)))
      ∙ (cond-false (ltb (length moved) 2) moved (sealed (take (length moved - 2) moved)) (le-ltb (length moved) 2 (omega arith))
      ∙ ap (λ m. sealed (take (m - 2) moved)) n)

  -- all but the last two bytes stand before the check word
  seal_keeps : (i : ℕ) → i + 2 < length bs → get_or (sealed (take (length bs - 2) moved)) i 0 ≡ get_or moved i 0
  unfolding sealed
  seal_keeps i h =
      let n = length_moved in
      let ws = take (length bs - 2) moved in
      let l : length ws ≡ length bs - 2 = length-take-le (length bs - 2) moved (omega arith) in
      get_or_append_left ws (bytes16 (check_word_of ws)) 0 i (omega arith) ∙ get_or-take (length bs - 2) moved i 0 (omega arith)

  kept : (i : ℕ) → i + 2 < length bs → get_or whole i 0 ≡ get_or moved i 0
  kept i h = ap (λ xs. get_or xs i 0) is_sealed ∙ seal_keeps i h

  pub stamp-before : (i : ℕ) → i < 6 → get_or whole i 0 ≡ get_or bs i 0
  stamp-before i h = kept i (omega arith) ∙ put-before bs (bytes32 soc) 6 (omega arith) i h

  pub stamp-behind : (i : ℕ) → 10 ≤ i → i + 2 < length bs → get_or whole i 0 ≡ get_or bs i 0
  stamp-behind i h g = kept i g ∙ put-behind bs (bytes32 soc) 6 (omega arith) i h

  soc_byte : (k : ℕ) → k < 4 → get_or whole (6 + k) 0 ≡ get_or (bytes32 soc) k 0
  soc_byte k h = kept (6 + k) (omega arith) ∙ put_in bs (bytes32 soc) 6 (omega arith) k h

  pub stamp-soc : soc < 2 ^ 32 → be32 whole 6 ≡ soc
  stamp-soc h =
      (λ i. (soc_byte 0 (omega arith) i * 256 + soc_byte 1 (omega arith) i) * 65536 + (soc_byte 2 (omega arith) i * 256 + soc_byte 3 (omega arith) i))
      ∙ number32 soc h

  same_body : body_of whole ≡ body_of bs
  same_body =
      let n = length-stamped (Some soc) bs in
      let l = length-body whole in
      let m = length-body bs in
      ext_get_or 0 (body_of whole) (body_of bs) (omega arith)
      (λ i h. body_at whole i (omega arith) ∙ (stamp-behind (14 + i) (omega arith) (omega arith) ∙ sym (body_at bs i (omega arith))))

  -- it is told as the frame was
  pub stamp-alike : checks bs ≡ true → Alike whole bs
  stamp-alike c =
      record {
        long = length-stamped (Some soc) bs;
        mark = stamp-before 0 (omega arith);
        kind = stamp-before 1 (omega arith);
        size = λ i. stamp-before 2 (omega arith) i * 256 + stamp-before 3 (omega arith) i;
        body = same_body;
        check = ap checks is_sealed ∙ (sealed-checks (take (length bs - 2) moved) ∙ sym c);
      }
