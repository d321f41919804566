-- Frames moved by whole seconds.
use Rattle.std.specs.Prelude.{ℕ, min, Bool, false, cond, List, ℤ, pos, negsuc, ◌+ℤ◌, Some, None, Ok, Err, Option, Result, ◌==◌, nat_le}
use Rattle.common.specs.declared.fault.Fault.{Fault}
use Rattle.fields.specs.Fields.{be32, field, bytes32, written}
use Rattle.wire.specs.Frames.{Told, classified, resealed}

-- a shift is held to 60 seconds, either way
abbrev pub held : ℤ → ℤ
held (pos n) = pos (min n 60)
held (negsuc n) = negsuc (min n 59)

-- a second for which the 32 bits of SOC have a place
abbrev pub in_soc : ℤ → Option ℕ
in_soc (pos n) = cond (nat_le n 4294967295) (Some n) None
in_soc (negsuc n) = None

-- the shift is by no second at all
abbrev pub is_zero : ℤ → Bool
is_zero (pos n) = n == 0
is_zero (negsuc n) = false

-- the second that lies a shift after another; none if it is the same, or SOC has no place for it
abbrev pub moved : ℤ → ℕ → Option ℕ
moved z soc = cond (is_zero z) None (in_soc (pos soc +ℤ z))

-- SOC, in the bytes 6 to 9
abbrev pub soc_of : List ℕ → Option ℕ
soc_of bs = field bs 6 4 (be32 bs 6)

-- only a frame that passes the four checks is moved
abbrev pub target_by : Result Told Fault → Option ℕ → ℤ → Option ℕ
target_by (Ok t) (Some soc) z = moved z soc
target_by (Ok t) None z = None
target_by (Err e) soc z = None

-- the SOC that a frame gets, if it is sound and its SOC moves
abbrev pub target : ℤ → List ℕ → Option ℕ
target z bs = target_by (classified bs) (soc_of bs) z

-- the frame with another SOC and a fresh check word
abbrev pub stamped : Option ℕ → List ℕ → List ℕ
stamped None bs = bs
stamped (Some soc) bs = resealed (written bs 6 (bytes32 soc))

-- what a frame becomes by a shift of so many seconds
abbrev pub shifted : ℤ → List ℕ → List ℕ
shifted z bs = stamped (target z bs) bs
