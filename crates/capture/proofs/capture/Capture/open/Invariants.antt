use Rattle.std.proofs.Common.{◌≡◌, length}
use Rattle.capture.specs.Records.{sound_behind}
use Rattle.capture.proofs.capture.Capture.open.Given as goal

abbrev pub invariant-loop-rest : goal.invariant-loop-rest
invariant-loop-rest l = sound_behind (length l.rest) l.low l.rest ≡ sound_behind (length l.records) 0 l.records

abbrev pub decreases-loop-rest : goal.decreases-loop-rest
decreases-loop-rest l = length l.rest
