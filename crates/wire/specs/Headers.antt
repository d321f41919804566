-- The header: SYNC (2), FRAMESIZE (2), IDCODE (2), SOC (4), the time quality (1) and the count (3).
use Rattle.std.specs.Prelude.{ℕ, ◌/◌, ◌%◌, cond, List, [], ◌∷◌, ◌++◌, length, Ok, Err, Result, nat_lt}
use Rattle.common.specs.declared.fault.Fault.{Fault}
use Rattle.common.specs.declared.fault.Fault.TheVariants.{Short}
use Rattle.fields.specs.Fields.{be8, be16, be24, be32, bytes16, bytes32}
use Rattle.wire.specs.declared.kind.FrameType.{FrameType}
use Rattle.wire.specs.declared.kind.Version.{Version}
use Rattle.wire.specs.declared.header.TimeTag.{TimeTag}
use Rattle.wire.specs.declared.header.Header.{Header}
use Rattle.wire.specs.Kinds.{sync, synced}

-- the time that a frame's bytes tell
abbrev pub time_of : List ℕ → TimeTag
time_of bs = record { soc = be32 bs 6; quality = be8 bs 10; count = be24 bs 11 }

-- the same, of bytes that may end too soon
abbrev pub timed : List ℕ → Result TimeTag Fault
timed bs = cond (nat_lt (length bs) 14) (Err Short) (Ok (time_of bs))

-- the fields of a header whose SYNC word told a type and a version, or else the refusal
abbrev pub headed : Result (FrameType × Version) Fault → List ℕ → Result Header Fault
headed (Err e) bs = Err e
headed (Ok s) bs = Ok (record { kind = s.0; version = s.1; size = be16 bs 2; id = record { 0 = be16 bs 4 }; time = time_of bs })

-- the header of a frame, of which 16 bytes and a SYNC word are asked
abbrev pub header_of : List ℕ → Result Header Fault
header_of bs = cond (nat_lt (length bs) 16) (Err Short) (headed (sync (be8 bs 0) (be8 bs 1)) bs)

-- the low three bytes of a number
abbrev pub bytes24 : ℕ → List ℕ
bytes24 v = v / 65536 % 256 ∷ v / 256 % 256 ∷ v % 256 ∷ []

-- the eight bytes that tell a time: SOC, the time quality and the count
abbrev pub time_bytes : TimeTag → List ℕ
time_bytes t = bytes32 t.soc ++ (t.quality ∷ bytes24 t.count)

-- the fourteen bytes of a header as they are written
abbrev pub header_bytes : Header → List ℕ
header_bytes h = synced h.kind h.version ++ (bytes16 h.size ++ (bytes16 h.id.0 ++ time_bytes h.time))
