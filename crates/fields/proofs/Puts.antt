-- Bytes written into a list, and behind one another.
use Rattle.std.proofs.Common.{◌≡◌, ℕ, ◌+◌, ◌-◌, ◌≤◌, List, ◌++◌, length, take, drop, sym, ap, ◌∙◌, append_assoc, arith, length-append, length-drop}
use borrow.Rule.Slice.PartMut.{put_mid}
use Rattle.std.proofs.lemmas.Grind.{common_steps}
use Rattle.std.proofs.lemmas.List.{take_at, drop_at, drop-drop, take-append-drop, length-take-le}
use Rattle.fields.specs.Fields.{put, over}

-- what a write of zs to the part from a to e leaves
pub part-put : (a e : ℕ) (xs ys zs : List ℕ) → ys ≡ zs → e ≡ a + length zs → put_mid a (e - a) xs ys ≡ put xs a zs
part-put a e xs ys zs p q = grind (arith, common_steps)

-- a write behind what stands at the front
pub put-over : (w o bs : List ℕ) (n : ℕ) → length w ≡ n → put (over w o) n bs ≡ over (w ++ bs) o
put-over w o bs n e =
    let front : take n (over w o) ≡ w = take_at w (drop (length w) o) n e in
    let rest : drop (n + length bs) (over w o) ≡ drop (length (w ++ bs)) o =
    sym (drop-drop (length bs) n (over w o)) ∙ (ap (λ u. drop (length bs) u) (drop_at w (drop (length w) o) n e)
    ∙ (drop-drop (length bs) (length w) o ∙ ap (λ k. drop k o) (sym (length-append w bs)))) in
    ap (λ u. u ++ (bs ++ drop (n + length bs) (over w o))) front
    ∙ (ap (λ u. w ++ (bs ++ u)) rest ∙ sym (append_assoc w bs (drop (length (w ++ bs)) o)))

-- what stands behind the front may be counted to it
over-more : (w o : List ℕ) (p : ℕ) → length w + p ≤ length o → over w o ≡ over (w ++ take p (drop (length w) o)) o
over-more w o p h =
    let rest : List ℕ = drop (length w) o in
    let d = length-drop (length w) o in
    let k : p ≤ length rest = omega (arith, d) in
    let l : length (w ++ take p rest) ≡ length w + p = length-append w (take p rest) ∙ ap (λ m. length w + m) (length-take-le p rest k) in
    ap (λ u. w ++ u) (sym (take-append-drop p rest)) ∙ (sym (append_assoc w (take p rest) (drop p rest))
    ∙ ap (λ u. (w ++ take p rest) ++ u) (drop-drop p (length w) o ∙ ap (λ m. drop m o) (sym l)))

-- a write some bytes behind the front, which stay
pub put-later : (w o bs : List ℕ) (p n : ℕ) → length w + p ≡ n → n ≤ length o → put (over w o) n bs ≡ over ((w ++ take p (drop (length w) o)) ++ bs) o
put-later w o bs p n e h =
    let t : List ℕ = take p (drop (length w) o) in
    let d = length-drop (length w) o in
    let k : p ≤ length (drop (length w) o) = omega (arith, d) in
    let l : length (w ++ t) ≡ n = length-append w t ∙ (ap (λ m. length w + m) (length-take-le p (drop (length w) o) k) ∙ e) in
    ap (λ u. put u n bs) (over-more w o p (omega arith)) ∙ put-over (w ++ t) o bs n l
