use Rattle.std.proofs.Common.{◌≡◌}
use Rattle.listing.specs.Lines.{lowest_config}
use Rattle.listing.proofs.find.first_rate.Given as goal

abbrev pub invariant-loop-line : goal.invariant-loop-line
invariant-loop-line l = l.lowest ≡ lowest_config l.records l.line
