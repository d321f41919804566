-- Big-endian fields of a list of bytes, and the list with other bytes in the place of some.
use Rattle.std.specs.Prelude.{ℕ, ◌+◌, ◌*◌, ◌/◌, ◌%◌, Bool, cond, List, [], ◌∷◌, ◌++◌, length, take, drop, Some, None, Ok, Err, Option, Result, nat_le, slice_index}
use Rattle.common.specs.declared.fault.Fault.{Fault}
use Rattle.common.specs.declared.fault.Fault.TheVariants.{Buffer}

-- the byte at i
abbrev pub be8 : List ℕ → ℕ → ℕ
be8 xs i = slice_index xs i

-- the number that stands in the 2 bytes from i on, the highest byte first
abbrev pub be16 : List ℕ → ℕ → ℕ
be16 xs i = be8 xs i * 256 + be8 xs (i + 1)

-- the number that stands in the 3 bytes from i on, the highest byte first
abbrev pub be24 : List ℕ → ℕ → ℕ
be24 xs i = be8 xs i * 65536 + be16 xs (i + 1)

-- the number that stands in the 4 bytes from i on, the highest byte first
abbrev pub be32 : List ℕ → ℕ → ℕ
be32 xs i = be16 xs i * 65536 + be16 xs (i + 2)

-- the number that stands in the 8 bytes from i on, the highest byte first
abbrev pub be64 : List ℕ → ℕ → ℕ
be64 xs i = be32 xs i * 4294967296 + be32 xs (i + 4)

-- n bytes from i on lie within the list
abbrev pub fits : List ℕ → ℕ → ℕ → Bool
fits xs i n = nat_le (i + n) (length xs)

-- a field of n bytes at i with the value v, or none where the bytes end before it does
abbrev pub field : List ℕ → ℕ → ℕ → ℕ → Option ℕ
field xs i n v = cond (fits xs i n) (Some v) None

-- the low 16 bits of a number as 2 bytes, the highest byte first
abbrev pub bytes16 : ℕ → List ℕ
bytes16 v = v / 256 % 256 ∷ v % 256 ∷ []

-- the low 32 bits of a number as 4 bytes, the highest byte first
abbrev pub bytes32 : ℕ → List ℕ
bytes32 v = v / 16777216 % 256 ∷ v / 65536 % 256 ∷ v / 256 % 256 ∷ v % 256 ∷ []

-- xs with the bytes bs in the place of those from i on
abbrev pub put : List ℕ → ℕ → List ℕ → List ℕ
put xs i bs = take i xs ++ (bs ++ drop (i + length bs) xs)

-- xs with the bytes bs at its front
abbrev pub over : List ℕ → List ℕ → List ℕ
over bs xs = bs ++ drop (length bs) xs

-- what a write of bs at i answers: success, or that the buffer is too short
abbrev pub put_said : List ℕ → ℕ → List ℕ → Result Unit Fault
put_said xs i bs = cond (fits xs i (length bs)) (Ok tt) (Err Buffer)

-- what a write of bs at i leaves: the bytes in their place, or the buffer as it was if it is too short
abbrev pub written : List ℕ → ℕ → List ℕ → List ℕ
written xs i bs = cond (fits xs i (length bs)) (put xs i bs) xs

-- what a buffer holds after a call that answered a length or a refusal: the bytes bs at its front, or what it held before
abbrev pub left_by : Result ℕ Fault → List ℕ → List ℕ → List ℕ
left_by (Ok n) bs out = over bs out
left_by (Err e) bs out = out
