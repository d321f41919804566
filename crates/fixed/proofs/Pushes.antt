-- A push onto a list that has room.
use Rattle.std.proofs.Common.{◌≡◌, ℕ, ◌<◌, List, [], ◌∷◌, ◌++◌, length, arith}
use Rattle.fixed.specs.FixedList.{pushed}

pub pushed-room : {T : Type 0} (n : ℕ) (x : T) (xs : List T) → length xs < n → pushed n x xs ≡ xs ++ x ∷ []
pushed-room n x xs room = grind arith
