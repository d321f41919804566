-- The SYNC word: AAh, then the type in bits 6 to 4 and the version in bits 3 to 0, with bit 7 zero.
use Rattle.std.specs.Prelude.{◌≡◌, ℕ, ◌+◌, ◌*◌, ◌/◌, ◌%◌, cond, List, [], ◌∷◌, codes, Some, None, Ok, Err, Option, Result, ok_or, ◌==◌}
use Rattle.common.specs.declared.fault.Fault.{Fault}
use Rattle.common.specs.declared.fault.Fault.TheVariants.{Sync}
use Rattle.wire.specs.declared.kind.FrameType.{FrameType}
use Rattle.wire.specs.declared.kind.FrameType.TheVariants as type
use Rattle.wire.specs.declared.kind.Version.{Version}
use Rattle.wire.specs.declared.kind.Version.TheVariants as version

-- the standard's code for each type and version
abbrev pub type_code : FrameType → ℕ
type_code type.Data = 0
type_code type.Header = 1
type_code type.Config1 = 2
type_code type.Config2 = 3
type_code type.Command = 4
type_code type.Config3 = 5

-- the standard's number for each version: 1 for the edition of 2005, 2 for that of 2011
abbrev pub version_code : Version → ℕ
version_code version.Y2005 = 1
version_code version.Y2011 = 2

-- the type that a code stands for, if it is one of the six
abbrev pub type_of : ℕ → Option FrameType
type_of t =
    cond (t == 0) (Some type.Data)
    (cond (t == 1) (Some type.Header)
    (cond (t == 2) (Some type.Config1)
    (cond (t == 3) (Some type.Config2) (cond (t == 4) (Some type.Command) (cond (t == 5) (Some type.Config3) None)))))

-- the edition that a version number stands for, if it is one of the two
abbrev pub version_of : ℕ → Option Version
version_of v = cond (v == 1) (Some version.Y2005) (cond (v == 2) (Some version.Y2011) None)

-- a code is told as its type or version, and another number is no SYNC word
abbrev pub TellsType : ℕ → Result FrameType Fault → Type 0
TellsType code r = r ≡ ok_or (type_of code) Sync

-- a version's number is told as its edition, and another number is no SYNC word
abbrev pub TellsVersion : ℕ → Result Version Fault → Type 0
TellsVersion code r = r ≡ ok_or (version_of code) Sync

-- the standard's name for each type
abbrev pub name_of : FrameType → List ℕ
name_of type.Data = codes "data"
name_of type.Header = codes "header"
name_of type.Config1 = codes "configuration 1"
name_of type.Config2 = codes "configuration 2"
name_of type.Command = codes "command"
name_of type.Config3 = codes "configuration 3"

-- a type and a version, if there are both; else it is no SYNC word
abbrev pub both : Option FrameType → Option Version → Result (FrameType × Version) Fault
both (Some t) (Some v) = Ok (t, v)
both (Some t) None = Err Sync
both None v = Err Sync

-- what the two bytes of a SYNC word tell
abbrev pub sync : ℕ → ℕ → Result (FrameType × Version) Fault
sync a b = cond (a == 0xaa) (both (type_of (b / 16)) (version_of (b % 16))) (Err Sync)

-- the two bytes that a type and version are told by
abbrev pub synced : FrameType → Version → List ℕ
synced t v = 0xaa ∷ (type_code t * 16 + version_code v) ∷ []
