-- A frame's last two bytes made its check word.
use Rattle.std.proofs.Common.{◌≡◌, ℕ, ◌+◌, ◌-◌, ◌/◌, ◌%◌, ◌^◌, ◌<◌, ◌≤◌, true, ltb, List, [], ◌∷◌, ◌++◌, length, get_or, take, drop, sym, refl, ap, ◌∙◌, arith, length-append, length-drop}
use Rattle.std.proofs.lemmas.List.{get_or_at, get_or-append-add, take_at, take-take, drop_at, drop_all, drop-drop, length-take-le}
use Rattle.std.proofs.lemmas.Bool.{cond-false, le-ltb, eq-eqb}
use Rattle.crc.specs.CheckWord.{check_word_of}
use Rattle.crc.proofs.Bounds.{check_word_lt}
use Rattle.fields.specs.Fields.{be16, put, over, bytes16}
use Rattle.wire.specs.Frames.{sealed, resealed, checks}

pub length-sealed : (ws : List ℕ) → length (sealed ws) ≡ length ws + 2
unfolding sealed
length-sealed ws = length-append ws (bytes16 (check_word_of ws))

-- where there is room for a check word
resealed_is : (xs : List ℕ) → 2 ≤ length xs → resealed xs ≡ sealed (take (length xs - 2) xs)
resealed_is xs h = cond-false (ltb (length xs) 2) xs (sealed (take (length xs - 2) xs)) (le-ltb (length xs) 2 h)

-- the check word written over the last two bytes
pub seals : (xs : List ℕ) (check k : ℕ) → 2 ≤ length xs → k ≡ length xs - 2 → check ≡ check_word_of (take k xs) → put xs (length xs - 2) (bytes16 check) ≡ resealed xs
unfolding sealed
seals xs check k h e c =
    let w : List ℕ = take (length xs - 2) xs in
    let none : drop (length xs - 2 + 2) xs ≡ [] = drop_all (length xs - 2 + 2) xs (omega arith) in
    ap (λ u. w ++ (bytes16 check ++ u)) none
    ∙ (ap (λ u. w ++ (bytes16 u ++ [])) (c ∙ ap (λ m. check_word_of (take m xs)) e) ∙ sym (resealed_is xs h))

-- the same of a frame that stands at the front of a longer buffer
pub seals-over : (w o : List ℕ) (n : ℕ) → n ≡ length w + 2 → n ≤ length o → resealed (take n (over w o)) ++ drop n (over w o) ≡ over (sealed w) o
seals-over w o n e h =
    let l = length-append w (drop (length w) o) in
    let d = length-drop (length w) o in
    let long : n ≤ length (over w o) = omega (arith, l, d) in
    let size : length (take n (over w o)) ≡ n = length-take-le n (over w o) long in
    let before : take (length (take n (over w o)) - 2) (take n (over w o)) ≡ w =
    ap (λ k. take (k - 2) (take n (over w o))) size ∙ (take-take (n - 2) n (over w o) (omega arith) ∙ take_at w (drop (length w) o) (n - 2) (omega arith)) in
    let rest : drop n (over w o) ≡ drop (length (sealed w)) o =
    ap (λ k. drop k (over w o)) e ∙ (sym (drop-drop 2 (length w) (over w o)) ∙ (ap (drop 2) (drop_at w (drop (length w) o) (length w) refl)
    ∙ (drop-drop 2 (length w) o ∙ ap (λ k. drop k o) (sym (length-sealed w))))) in
    ap (λ u. u ++ drop n (over w o)) (resealed_is (take n (over w o)) (omega (arith, size)) ∙ ap sealed before)
    ∙ ap (λ u. sealed w ++ u) rest

-- a word that stands behind a list
word_behind : (ws : List ℕ) (v k : ℕ) → v < 2 ^ 16 → length ws ≡ k → be16 (ws ++ bytes16 v) k ≡ v
word_behind ws v k h l =
    let high : get_or (ws ++ bytes16 v) k 0 ≡ v / 256 % 256 = get_or_at ws (v / 256 % 256) (v % 256 ∷ []) 0 k l in
    let low : get_or (ws ++ bytes16 v) (k + 1) 0 ≡ v % 256 =
    ap (λ m. get_or (ws ++ bytes16 v) (m + 1) 0) (sym l) ∙ get_or-append-add ws (bytes16 v) 1 0 in
    omega (arith, high, low)

-- the check that reading makes passes
pub sealed-checks : (ws : List ℕ) → checks (sealed ws) ≡ true
unfolding sealed
sealed-checks ws =
    let n = length-append ws (bytes16 (check_word_of ws)) in
    let k : length (ws ++ bytes16 (check_word_of ws)) - 2 ≡ length ws = omega (arith, n) in
    let before : take (length (ws ++ bytes16 (check_word_of ws)) - 2) (ws ++ bytes16 (check_word_of ws)) ≡ ws =
    take_at ws (bytes16 (check_word_of ws)) _ (sym k) in
    let word = word_behind ws (check_word_of ws) (length (ws ++ bytes16 (check_word_of ws)) - 2) (check_word_lt ws) (sym k) in
    eq-eqb _ _ (ap check_word_of before ∙ sym word)
