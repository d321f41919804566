-- What the test of a plan before its opening tells.
use Rattle.std.specs.Prelude.{◌≡◌, ℕ, ◌≤◌, Some, None, Ok, Err, Option, Result}
use Rattle.common.specs.declared.fault.Fault.{Fault}
use Rattle.slots.specs.declared.rate.Rate.{Rate}
use Rattle.slots.specs.Slots.{frames_of}
use Rattle.plan.specs.Plans.{PlanOf}
use Rattle.common.specs.Readings.{last_reading}

-- the refusal that is due, or the plan's own rate, at a reading that is small enough
abbrev pub opens_by : Result Rate Fault → PlanOf → ℕ → Option Fault → Type 0
opens_by (Ok rate) p reading f = (f ≡ None) × (frames_of rate ≡ p.rate) × (reading ≤ last_reading)
opens_by (Err e) p reading f = f ≡ Some e
