-- Which frames have a slot, and which slot that is.
use Rattle.std.specs.Prelude.{ℕ, Option, Some, None, Ok, Err, Result, slice_get}
use Rattle.common.specs.declared.fault.Fault.{Fault}
use Rattle.common.specs.declared.fault.Fault.TheVariants as fault
use Rattle.wire.specs.declared.kind.FrameType.{FrameType}
use Rattle.wire.specs.declared.kind.FrameType.TheVariants as type
use Rattle.wire.specs.declared.header.Header.{Header}
use Rattle.wire.specs.declared.header.TimeTag.{TimeTag}
use Rattle.plan.specs.Ports.{PortOf}
use Rattle.plan.specs.Plans.{PlanOf}
use Rattle.slots.specs.Slots.{slot_due}
use Rattle.listing.specs.declared.build.Outcome.{Outcome}
use Rattle.listing.specs.declared.build.Outcome.TheVariants as outcome

-- a time, if it is that of a data frame
abbrev pub if_data : FrameType → TimeTag → Option TimeTag
if_data type.Data time = Some time
if_data type.Header time = None
if_data type.Config1 time = None
if_data type.Config2 time = None
if_data type.Command time = None
if_data type.Config3 time = None

-- the time of a data frame that passes all checks, and none of any other frame
abbrev pub data_time_of : Result Header Fault → Option TimeTag
data_time_of (Ok h) = if_data h.kind h.time
data_time_of (Err e) = None

-- the port of the plan that a line fills, if it fills one
abbrev pub filled_port : Option Outcome → PlanOf → Option PortOf
filled_port (Some (outcome.Filled port)) p = slice_get p.ports port.0
filled_port (Some outcome.Unused) p = None
filled_port (Some outcome.NoConfiguration) p = None
filled_port (Some (outcome.Refused fault)) p = None
filled_port None p = None

-- the slot at a rate of a frame with a time, from the sender at a port; a line that fills no port has refusal 15
abbrev pub slot_by : Option PortOf → ℕ → TimeTag → Result ℕ Fault
slot_by (Some port) F time = slot_due F port.base time.soc time.count
slot_by None F time = Err fault.Port
