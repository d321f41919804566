-- What a frame is told apart as, after the four checks: long enough, SYNC, FRAMESIZE, check word.
use Rattle.std.specs.Prelude.{ℕ, ◌+◌, ◌-◌, Bool, cond, List, ◌++◌, length, take, drop, Ok, Err, Result, ◌==◌, nat_lt}
use Rattle.std.specs.Borrow.{Bor}
use Rattle.common.specs.declared.fault.Fault.{Fault}
use Rattle.common.specs.declared.fault.Fault.TheVariants as fault
use Rattle.crc.specs.CheckWord.{check_word_of}
use Rattle.common.specs.declared.ids.IdCode.{IdCode}
use Rattle.fields.specs.Fields.{be16, bytes16, over}
use Rattle.wire.specs.declared.kind.FrameType.{FrameType}
use Rattle.wire.specs.declared.kind.FrameType.TheVariants as type
use Rattle.wire.specs.declared.kind.Version.TheVariants.{Y2011}
use Rattle.wire.specs.declared.header.Header.{Header}
use Rattle.wire.specs.declared.header.TimeTag.{TimeTag}
use Rattle.wire.specs.declared.frame.Frame.{Frame}
use Rattle.wire.specs.declared.frame.Frame.TheVariants as frame
use Rattle.wire.specs.Headers.{header_of, header_bytes}

-- what a frame is told apart as: data, configuration 2 or another, each with its body
pub data Told : Type 0 where
  of_data : List ℕ → Told
  of_config2 : List ℕ → Told
  of_other : List ℕ → Told

-- what a frame of each type with a given body is told as
abbrev pub telling : FrameType → List ℕ → Told
telling type.Data body = of_data body
telling type.Header body = of_other body
telling type.Config1 body = of_other body
telling type.Config2 body = of_config2 body
telling type.Command body = of_other body
telling type.Config3 body = of_other body

-- the body: all between FRACSEC and the check word
abbrev pub body_of : List ℕ → List ℕ
body_of bs = take (length bs - 16) (drop 14 bs)

-- the last two bytes hold the check word of those before
abbrev pub checks : List ℕ → Bool
checks bs = check_word_of (take (length bs - 2) bs) == be16 bs (length bs - 2)

-- what a frame with this header is told apart as, if FRAMESIZE is its length, and then if its check word is right
abbrev pub told_by : Result Header Fault → List ℕ → Result Told Fault
told_by (Err e) bs = Err e
told_by (Ok h) bs =
    cond (h.size == length bs) (cond (checks bs) (Ok (telling h.kind (body_of bs))) (Err fault.CheckWord)) (Err fault.FrameSize)

-- what a frame is told apart as, or the refusal of the first check that fails
abbrev pub classified : List ℕ → Result Told Fault
classified bs = told_by (header_of bs) bs

-- what the code answers, with the bodies as they stand
abbrev pub seen : Frame → Told
seen (frame.Data body) = of_data body.now
seen (frame.Config2 body) = of_config2 body.now
seen (frame.Other body) = of_other body.now

-- the same, where the code may answer a refusal
abbrev pub answered : Result Frame Fault → Result Told Fault
answered (Ok f) = Ok (seen f)
answered (Err e) = Err e

-- the same of a frame behind its header
abbrev pub answered_behind : Result (Header × Frame) Fault → Result Told Fault
answered_behind (Ok x) = Ok (seen x.1)
answered_behind (Err e) = Err e

-- the body of a data frame; another frame is of a type that is not due, and a refusal stays
abbrev pub data_body_of : Result Told Fault → Result (List ℕ) Fault
data_body_of (Ok (of_data b)) = Ok b
data_body_of (Ok (of_config2 b)) = Err fault.FrameType
data_body_of (Ok (of_other b)) = Err fault.FrameType
data_body_of (Err e) = Err e

-- the body of a configuration 2; another frame is of a type that is not due, and a refusal stays
abbrev pub config_body_of : Result Told Fault → Result (List ℕ) Fault
config_body_of (Ok (of_data b)) = Err fault.FrameType
config_body_of (Ok (of_config2 b)) = Ok b
config_body_of (Ok (of_other b)) = Err fault.FrameType
config_body_of (Err e) = Err e

-- what the code answers for either, with the body as it stands
abbrev pub body_seen : Result (Bor (List ℕ)) Fault → Result (List ℕ) Fault
body_seen (Ok body) = Ok body.now
body_seen (Err e) = Err e

-- bytes with their check word behind them
unfoldable pub sealed : List ℕ → List ℕ
sealed ws = ws ++ bytes16 (check_word_of ws)

-- a frame whose last two bytes are made its check word; with fewer than two it stays as it is
abbrev pub resealed : List ℕ → List ℕ
resealed xs = cond (nat_lt (length xs) 2) xs (sealed (take (length xs - 2) xs))

-- the whole frame of a header and a body
abbrev pub frame_bytes : Header → List ℕ → List ℕ
frame_bytes h body = sealed (header_bytes h ++ body)

-- the header that is written before a body of so many bytes
abbrev pub header_for : FrameType → IdCode → TimeTag → ℕ → Header
header_for t id time n = record { kind = t; version = Y2011; size = 16 + n; id = id; time = time }

-- what the writing of a frame answers: FRAMESIZE has to hold its length, and the buffer the frame
abbrev pub write_frame_said : List ℕ → List ℕ → Result ℕ Fault
write_frame_said out body =
    cond (nat_lt 65519 (length body)) (Err fault.FrameSize)
    (cond (nat_lt (length out) (16 + length body)) (Err fault.Buffer) (Ok (16 + length body)))
