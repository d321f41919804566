-- The bytes of a capture, read as records.
use Rattle.std.specs.Prelude.{ℕ, zero, suc, ◌+◌, Bool, cond, ◌&&◌, ◌||◌, List, [], ◌∷◌, ◌++◌, length, take, drop, Some, None, Ok, Err, codes, Option, Result, ◌==◌, nat_le}
use Rattle.std.specs.Borrow.{Bor}
use Rattle.std.specs.Str.{bytes_eq}
use Rattle.common.specs.declared.fault.Fault.{Fault}
use Rattle.common.specs.declared.fault.Fault.TheVariants.{Unsound}
use Rattle.fields.specs.Fields.{be8, be16, be64, bytes16}
use Rattle.capture.specs.declared.record.Record.{Record}
use Rattle.common.specs.Readings.{last_reading}

-- a record, with the bytes of its frame
pub record Entry : Type 0 where
  pub reading : ℕ
  pub port : ℕ
  pub frame : List ℕ

-- what a record with a borrowed frame stands for: its reading, its line, and the bytes themselves
abbrev pub entry_of : Record → Entry
entry_of r = record { reading = r.reading; port = r.port.0; frame = r.frame.now }

-- the record that begins the bytes, as they read, sound or not
abbrev pub entry_at : List ℕ → Entry
entry_at bs = record { reading = be64 bs 0; port = be8 bs 8; frame = take (be16 bs 9) (drop 11 bs) }

-- how many bytes the first record takes, by the length that it tells
abbrev pub size_at : List ℕ → ℕ
size_at bs = 11 + be16 bs 9

-- the bytes behind the first record
abbrev pub behind : List ℕ → List ℕ
behind bs = drop (be16 bs 9) (drop 11 bs)

-- the limits of a record behind one with the reading low
abbrev pub limited : ℕ → ℕ → ℕ → ℕ → Bool
limited low reading port len =
    nat_le low reading && (nat_le reading last_reading && (nat_le port 15 && (nat_le 1 len && nat_le len 1040)))

-- the bytes begin with a whole record within its limits
abbrev pub sound_at : ℕ → List ℕ → Bool
sound_at low bs = nat_le 11 (length bs) && (limited low (be64 bs 0) (be8 bs 8) (be16 bs 9) && nat_le (size_at bs) (length bs))

-- a frame of n bytes in the first record, and the bytes behind the record, if they are there
abbrev pub frame_split : ℕ → List ℕ → Option (List ℕ × List ℕ)
frame_split n bs = cond (nat_le (11 + n) (length bs)) (Some (take n (drop 11 bs), drop n (drop 11 bs))) None

-- a frame and the bytes behind it, both borrowed, told by the bytes themselves; or none
abbrev pub parts_of : Option (Bor (List ℕ) × Bor (List ℕ)) → Option (List ℕ × List ℕ)
parts_of None = None
parts_of (Some p) = Some (p.0.now, p.1.now)

-- the first record and the bytes behind it, if it is whole, and sound behind one with the reading low
abbrev pub first_record : ℕ → List ℕ → Option (Entry × List ℕ)
first_record low bs = cond (sound_at low bs) (Some (entry_at bs, behind bs)) None

-- a record and the bytes behind it, both borrowed, told by what they hold; or none
abbrev pub split_of : Option (Record × Bor (List ℕ)) → Option (Entry × List ℕ)
split_of None = None
split_of (Some p) = Some (entry_of p.0, p.1.now)

-- the records that lead the bytes, n at most
unfoldable pub leading : ℕ → List ℕ → List Entry
leading zero bs = []
leading (suc n) bs = cond (sound_at 0 bs) (entry_at bs ∷ leading n (behind bs)) []

-- the bytes are n records at most, each sound behind the one before, and the first behind one with the reading low
unfoldable pub sound_behind : ℕ → ℕ → List ℕ → Bool
sound_behind zero low bs = length bs == 0
sound_behind (suc n) low bs = length bs == 0 || (sound_at low bs && sound_behind n (be64 bs 0) (behind bs))

-- all the records of the bytes; a record has at least one byte
abbrev pub entries : List ℕ → Result (List Entry) Fault
entries bs = cond (sound_behind (length bs) 0 bs) (Ok (leading (length bs) bs)) (Err Unsound)

-- what every capture begins with: its mark, and version 1
abbrev pub header : List ℕ
header = codes "PHC" ++ bytes16 1

-- the bytes behind the header, if a header begins them
abbrev pub headless : List ℕ → Option (List ℕ)
headless bs = cond (bytes_eq (take 5 bs) header) (Some (drop 5 bs)) None

-- the records of what stands behind a header; without a header it is no sound capture
abbrev pub entries_of : Option (List ℕ) → Result (List Entry) Fault
entries_of None = Err Unsound
entries_of (Some bs) = entries bs

-- the records of a capture
unfoldable pub records_of : List ℕ → Result (List Entry) Fault
records_of bs = entries_of (headless bs)
