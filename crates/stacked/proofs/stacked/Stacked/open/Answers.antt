use Rattle.stacked.proofs.Law.{laws}
use Rattle.stacked.proofs.stacked.Stacked.open.Goals as goal

pub returns-clause-laws : goal.returns-clause-laws
returns-clause-laws g c = laws
