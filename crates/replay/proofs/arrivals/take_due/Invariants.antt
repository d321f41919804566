use Rattle.std.proofs.Common.{◌≡◌, [], length}
use Rattle.recorded.specs.Recordings.{meaning_of}
use Rattle.replay.proofs.arrivals.take_due.Given as goal

abbrev pub invariant-loop-taken : goal.invariant-loop-taken
invariant-loop-taken l = length l.buffer ≡ 1040

abbrev pub decreases-loop-taken : goal.decreases-loop-taken
decreases-loop-taken l = length ((meaning_of l.feed).waits [])
