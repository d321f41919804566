-- An input that is shorter than the limit was read to its end.
use Rattle.std.proofs.Common.{◌≡◌, ℕ, ◌≤◌, List, [], ◌++◌, length, take, Option, Some, None, Result, Ok, Err, IfSome, IsOk, OnOk, ◌∙◌, ap, min, subst, arith}
use Rattle.std.specs.Option.{option_map}
use Rattle.std.proofs.lemmas.List.{length-take, take_all}

pub if_ok : {E P : Type 0} (r : Result ℕ E) → IsOk r → OnOk r P → P
if_ok (Ok n) ok h = h
if_ok (Err e) ok h = cc

whole : (o : Option (List ℕ)) (bs : List ℕ) → IfSome (option_map (take 65537) o) (λ xs. bs ≡ [] ++ xs) → length bs ≤ 65536 → IfSome o (λ xs. bs ≡ xs)
whole None bs h few = tt
whole (Some xs) bs h few =
    let cut : length bs ≡ min 65537 (length xs) = ap length h ∙ length-take 65537 xs in
    h ∙ take_all 65537 xs (omega (arith, cut, few))

pub read_whole : {R : Type 0} (remaining : R → Option (List ℕ)) (limit : ℕ) (inner input : R) (old bs : List ℕ) → limit ≡ 65537 → inner ≡ input → old ≡ [] → IfSome (option_map (take limit) (remaining inner)) (λ xs. bs ≡ old ++ xs) → length bs ≤ 65536 → IfSome (remaining input) (λ xs. bs ≡ xs)
read_whole remaining limit inner input old bs l i o h few =
    let at_limit = subst (λ n. IfSome (option_map (take n) (remaining inner)) (λ xs. bs ≡ old ++ xs)) l h in
    let of_input = subst (λ r. IfSome (option_map (take 65537) (remaining r)) (λ xs. bs ≡ old ++ xs)) i at_limit in
    whole (remaining input) bs (subst (λ ys. IfSome (option_map (take 65537) (remaining input)) (λ xs. bs ≡ ys ++ xs)) o of_input) few
