use Rattle.runs.proofs.Listing.{calls_keep_the_law_lem}
use Rattle.runs.proofs.law.calls_keep_the_law.Goals as goal

pub returns : goal.returns
returns c = calls_keep_the_law_lem
