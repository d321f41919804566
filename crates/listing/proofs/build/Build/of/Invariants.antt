use Rattle.std.proofs.Common.{◌≡◌}
use Rattle.plan.specs.Views.{plan_of}
use Rattle.listing.specs.Builds.{after_lines, outcomes}
use Rattle.listing.proofs.build.Build.of.Given as goal

abbrev pub invariant-loop-line : goal.invariant-loop-line
invariant-loop-line l =
    (plan_of l.plan ≡ (after_lines l.fn.id.0 l.records l.line).plan)
    × (l.buffer.items ≡ (after_lines l.fn.id.0 l.records l.line).buffer)
    × (l.lines.items ≡ outcomes l.fn.id.0 l.records l.line)
