use Rattle.std.proofs.Common.{rules}
use Rattle.capture.specs.Records.{leading}
use Rattle.recorded.proofs.Law.{laws}
use Rattle.recorded.proofs.recorded.Recorded.over.Goals as goal

pub returns-clause-waits : goal.returns-clause-waits
unfolding leading
returns-clause-waits c = search rules

pub returns-clause-laws : goal.returns-clause-laws
returns-clause-laws c = laws
