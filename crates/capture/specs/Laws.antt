-- A capture is what a sound list of records is written as: written, it reads back, and what reads was so written.
use Rattle.std.specs.Prelude.{◌≡◌, ℕ, ◌/◌, ◌<◌, ◌≤◌, List, [], ◌∷◌, ◌++◌, length, Ok, slice_index}
use Rattle.std.specs.List.{flat_map}
use Rattle.fields.specs.Fields.{bytes16, bytes32}
use Rattle.capture.specs.Records.{Entry, header, records_of}
use Rattle.common.specs.Readings.{last_reading}

-- the low 64 bits of a number as 8 bytes, the highest byte first
abbrev pub bytes64 : ℕ → List ℕ
bytes64 v = bytes32 (v / 4294967296) ++ bytes32 v

-- the bytes of a record: its reading, its line, its frame's length and its frame
abbrev pub record_bytes : Entry → List ℕ
record_bytes e = bytes64 e.reading ++ (e.port ∷ (bytes16 (length e.frame) ++ e.frame))

-- the bytes of the capture that has these records, in their order
abbrev pub capture_bytes : List Entry → List ℕ
capture_bytes es = header ++ flat_map record_bytes es

-- a record may stand behind one with the reading low
pub record Sound (low : ℕ) (e : Entry) : Type 0 where
  pub rises : low ≤ e.reading
  pub early : e.reading ≤ last_reading
  pub line : e.port ≤ 15
  pub some : 1 ≤ length e.frame
  pub few : length e.frame ≤ 1040

-- each record may stand behind the one before it, and the first behind one with the reading low
abbrev pub Sounds : ℕ → List Entry → Type 0
Sounds low [] = Unit {0}
Sounds low (e ∷ es) = Sound low e × Sounds e.reading es

-- a capture written of any sound list of records reads back as that list
abbrev pub WrittenReadsBack : Type 0
WrittenReadsBack = (es : List Entry) → Sounds 0 es → records_of (capture_bytes es) ≡ Ok es

-- any bytes that read as a list of records are the bytes of that list, which is sound
abbrev pub ReadWasWritten : Type 0
ReadWasWritten =
    (bs : List ℕ) (es : List Entry) → ((k : ℕ) → slice_index bs k < 256) → records_of bs ≡ Ok es → (bs ≡ capture_bytes es) × Sounds 0 es
