-- An engine as a whole, and what each call answers and leaves of it.
use Rattle.std.specs.Prelude.{ℕ, List, Ok, None, Option, Result}
use Rattle.common.specs.declared.fault.Fault.{Fault}
use Rattle.plan.specs.declared.plan.Plan.{Plan}
use Rattle.plan.specs.Views.{plan_of}
use Rattle.engine.specs.Boxes.{Setting, Closing, Box}
use Rattle.engine.specs.Calls as on

-- why it is shut, if it is, the plan as it was given, what never changes, and what changes
pub record State : Type 0 where
  pub shut : Option Fault
  pub plan : Plan
  pub setting : Setting
  pub box : Box

-- an engine with another box
abbrev pub with_box : State → Box → State
with_box e b = record { shut = e.shut; plan = e.plan; setting = e.setting; box = b }

-- an engine with the box that a call leaves, unless it is shut
abbrev pub left : State → Box → State
left e b = with_box e (on.if_open e.shut e.box b)

-- an engine that is opened, and not shut, with a plan, under a policy, at a reading
abbrev pub begins : Closing → Plan → ℕ → State
begins closing p reading =
    let setting = on.open_setting (plan_of p) reading in
    record { shut = None; plan = p; setting = setting; box = on.opened closing setting reading }

-- what a check answers: why it is shut, or success if it is open
abbrev pub check_said : State → Result Unit Fault
check_said e = on.unless_shut e.shut (Ok tt)

-- what a tick answers: the latest reading from then on, or the refusal
abbrev pub tick_said : State → ℕ → Result ℕ Fault
tick_said e reading = on.unless_shut e.shut (on.tick_said e.box reading)

-- what a tick with a reading leaves of the engine, under a policy
abbrev pub ticked : Closing → State → ℕ → State
ticked closing e reading = left e (on.ticked closing e.setting e.box reading)

-- what an admit of a frame for port q answers: success if the frame is accepted, or the refusal
abbrev pub admit_said : State → ℕ → List ℕ → Result Unit Fault
admit_said e q bytes = on.unless_shut e.shut (on.admit_said e.setting e.box q bytes)

-- what an admit of a frame for port q leaves of the engine, under a policy
abbrev pub admitted : Closing → State → ℕ → List ℕ → State
admitted closing e q bytes = left e (on.admitted closing e.setting e.box q bytes)

-- what a call for the counts answers: what was counted so far, or why it is shut
abbrev pub counts_said : State → Result on.CountsOf Fault
counts_said e = on.unless_shut e.shut (Ok (on.counts_in e.box))

-- what a take answers: the number of the slot that it lends, or the refusal
abbrev pub take_said : State → Result ℕ Fault
take_said e = on.unless_shut e.shut (on.take_said e.setting e.box)

-- what a take leaves of the engine
abbrev pub lent : State → State
lent e = left e (on.lent e.setting e.box)

-- what a write of slot n into so many bytes answers: the length of the frame, or the refusal
abbrev pub write_said : State → ℕ → ℕ → Result ℕ Fault
write_said e n room = on.unless_shut e.shut (on.write_said e.setting e.box n room)

-- the frame of slot n
abbrev pub frame_of : State → ℕ → List ℕ
frame_of e n = on.frame_of e.setting e.box n

-- what a write of slot n leaves of the engine: the slot is written, or put back for want of room; one that is not lent changes nothing
abbrev pub wrote : State → ℕ → ℕ → State
wrote e n room = left e (on.wrote_by e.setting e.box n room)
