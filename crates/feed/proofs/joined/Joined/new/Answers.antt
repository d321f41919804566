use Rattle.feed.proofs.Both.{both_wait}
use Rattle.feed.proofs.joined.Joined.new.Goals as goal

pub returns-clause-law : goal.returns-clause-law
returns-clause-law g c = both_wait
