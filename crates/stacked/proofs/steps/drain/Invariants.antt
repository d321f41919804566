use Rattle.std.proofs.Common.{◌≡◌, false, [], length}
use Rattle.feed.specs.Calls.{short}
use Rattle.concentrator.specs.Wholes.{whole}
use Rattle.stacked.specs.Stacks.{drained}
use Rattle.stacked.proofs.steps.drain.Given as goal

abbrev pub invariant-loop : goal.invariant-loop
invariant-loop g l = record { room : short l.scratch ≡ false; left : drained (whole l.concentrator) ≡ drained (whole l.fn.concentrator) }

-- what waits at the feed below
abbrev pub decreases-loop : goal.decreases-loop
decreases-loop g l = length ((g.F.Feed.meaning l.concentrator.feed).waits [])
