use Rattle.std.proofs.Common.{rules}
use Rattle.wire.specs.Frames.{sealed}
use Rattle.wire.proofs.write.seal.Goals as goal

pub returns-in-Some : goal.returns-in-Some
unfolding sealed
returns-in-Some c = search rules
