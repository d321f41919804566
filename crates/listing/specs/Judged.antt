-- What a frame turns out to be.
use Rattle.std.specs.Prelude.{ℕ, List, Ok, Err, Result}
use Rattle.common.specs.declared.fault.Fault.{Fault}
use Rattle.wire.specs.declared.header.Header.{Header}
use Rattle.wire.specs.Frames.{Told, classified}
use Rattle.wire.specs.Headers.{header_of}

-- the header, if the frame was told apart, or else the refusal
abbrev pub headed : Result Told Fault → Result Header Fault → Result Header Fault
headed (Ok t) h = h
headed (Err e) h = Err e

-- the header of a frame that passes all checks, or the refusal of the first check that fails
abbrev pub header_judged : List ℕ → Result Header Fault
header_judged bs = headed (classified bs) (header_of bs)
