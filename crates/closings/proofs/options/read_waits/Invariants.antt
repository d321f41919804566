use Rattle.std.specs.Vec.Iter.{into_iter_len}
use Rattle.closings.proofs.options.read_waits.Given as goal

abbrev pub decreases-loop-word : goal.decreases-loop-word
decreases-loop-word l = into_iter_len l.words
