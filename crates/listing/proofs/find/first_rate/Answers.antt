use Rattle.std.proofs.Common.{rules}
use Rattle.listing.proofs.LinesLemmas.{lowest_config-zero, lowest_config-one_more}
use Rattle.listing.proofs.find.first_rate.Goals as goal

pub loop-line-init : goal.loop-line-init
loop-line-init c = search (rules, lowest_config-zero)

pub loop-line-preserved : goal.loop-line-preserved
loop-line-preserved c = search (rules, lowest_config-one_more)
