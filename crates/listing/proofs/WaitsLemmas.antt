-- The number that a wait is read from.
use Rattle.std.proofs.Common.{◌≡◌, ℕ, ap, List, ◌∷◌, map, Result, Ok, Err, IfOk}
use Rattle.std.specs.Str.Parse.{ParsesUnsigned}
use Rattle.listing.specs.Waits.{TookNumber}

pub took-number : {X E : Type 0} {before after : List X} {word : X} (bytes : X → List ℕ) (r : Result ℕ E)
    → before ≡ word ∷ after → ParsesUnsigned 64 10 (bytes word) r
    → IfOk r (λ n. TookNumber (map bytes before) (map bytes after) n)
took-number bytes (Ok n) first reads = record { text = _; first = ap (map _) first; number = reads }
took-number bytes (Err e) first reads = tt
