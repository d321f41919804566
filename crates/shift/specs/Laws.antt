-- What a shift does to a frame, told by the frame's fields.
use Rattle.std.specs.Prelude.{◌≡◌, ℕ, ◌+◌, ◌<◌, ◌≤◌, List, length, ℤ, pos, ◌+ℤ◌, ◌≤ℤ◌, ◌<ℤ◌, Ok, Err, slice_index, slice_index_or}
use Rattle.common.specs.declared.fault.Fault.{Fault}
use Rattle.fields.specs.Fields.{be32}
use Rattle.wire.specs.Frames.{Told, classified}
use Rattle.feed.specs.Feeds.{Behaviour}
use Rattle.feed.specs.Maps.{mapped}
use Rattle.shift.specs.Shifts.{shifted}
use Rattle.shift.specs.Lines.{by_line}

-- the SOC of a frame and a shift together
abbrev pub due : ℤ → List ℕ → ℤ
due z bs = pos (be32 bs 6) +ℤ z

-- what becomes of a frame that passes the four checks
pub record Moves (z : ℤ) (bs : List ℕ) : Type 0 where
  -- it passes them again, and is told as the same type with the same body
  pub told : classified (shifted z bs) ≡ classified bs
  -- its SOC is moved if the result has 32 bits
  pub moved : pos 0 ≤ℤ due z bs → due z bs ≤ℤ pos 4294967295 → pos (be32 (shifted z bs) 6) ≡ due z bs
  -- else it stays as it is
  pub early : due z bs <ℤ pos 0 → shifted z bs ≡ bs
  pub late : pos 4294967295 <ℤ due z bs → shifted z bs ≡ bs
  -- no byte before SOC changes, and none between SOC and the check word
  pub before : (i : ℕ) → i < 6 → slice_index (shifted z bs) i ≡ slice_index bs i
  pub behind : (i : ℕ) → 10 ≤ i → i + 2 < length bs → slice_index (shifted z bs) i ≡ slice_index bs i

-- so it is with every frame that passes the four checks, whatever the shift
abbrev pub SoundMoves : Type 0
SoundMoves = (z : ℤ) (bs : List ℕ) (t : Told) → classified bs ≡ Ok t → Moves z bs

-- any other frame stays as it is
abbrev pub UnsoundStays : Type 0
UnsoundStays = (z : ℤ) (bs : List ℕ) (e : Fault) → classified bs ≡ Err e → shifted z bs ≡ bs

-- a shift of zero changes no frame
abbrev pub ZeroStays : Type 0
ZeroStays = (bs : List ℕ) → shifted (pos 0) bs ≡ bs

-- a layer of such shifts alone means what the feed below it means
abbrev pub ZeroLayer : Type 0
ZeroLayer = (zs : List ℤ) → ((port : ℕ) → slice_index_or zs port (pos 0) ≡ pos 0) → (m : Behaviour) → mapped (by_line zs) m ≡ m
