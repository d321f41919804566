-- A concentrator under another, as a machine: the frames of its closed, unwritten slots wait, in order, each with one port.
use Rattle.std.specs.Prelude.{ℕ, zero, suc, ◌-◌, cond, List, [], ◌∷◌, length, Ok, Err, Result}
use Rattle.common.specs.declared.fault.Fault.{Fault}
use Rattle.feed.specs.declared.feed.Taken.{Taken}
use Rattle.feed.specs.Feeds.{Waiting, Op, Tick, Next, Behaviour}
use Rattle.feed.specs.Machines.{behaviour}
use Rattle.engine.specs.Boxes.{Setting, Box, oldest}
use Rattle.engine.specs.Calls as on
use Rattle.concentrator.specs.Wholes.{Whole}
use Rattle.concentrator.specs.Calls as call

-- ---- a tick
-- a pull into a buffer with room; one that is refused, since nothing waits or no more frames are judged, changes nothing
abbrev pub pulled : Whole → Whole
pulled w = on.if_open w.shut w (cond (on.exhausted w.box) w (call.took_first w (w.feed [])))

-- what is left after so many pulls
abbrev pub pulls : ℕ → Whole → Whole
pulls zero w = w
pulls (suc n) w = pulls n (pulled w)

-- as many pulls as frames wait at the feed below
abbrev pub drained : Whole → Whole
drained w = pulls (length (w.feed [])) w

-- what a tick leaves, by what it answers: ticked and then drained, or as it was if it is refused
abbrev pub drained_by : Whole → Result ℕ Fault → Whole
drained_by w (Ok l) = drained (call.ticked_by w (Ok l))
drained_by w (Err e) = w

-- what a tick leaves; one that is shut stays as it is
abbrev pub ticked : Whole → ℕ → Whole
ticked w reading = on.if_open w.shut w (drained_by w (on.tick_said w.box reading))

-- ---- a next
-- what a next leaves, by what a take answers: the oldest closed slot is taken and written, to a buffer of 1,040 bytes; where there is none nothing has changed
abbrev pub wrote_by : Whole → Result ℕ Fault → Whole
wrote_by w (Ok n) = call.wrote (call.lent w) n 1040
wrote_by w (Err e) = w

-- what a tick and a next leave
abbrev pub step : Whole → Op → Whole
step w (Tick r) = ticked w r
step w Next = wrote_by w (call.take_said w)

-- ---- what waits
-- the frames of k slots from n on
abbrev pub frames : ℕ → Setting → Box → ℕ → ℕ → List Waiting
frames port g s n zero = []
frames port g s n (suc k) = record { port = port; bytes = on.frame_of g s n } ∷ frames port g s (suc n) k

-- those of the slots from the oldest unwritten one up to the lowest open one
abbrev pub ready : ℕ → Setting → Box → List Waiting
ready port g s = frames port g s (oldest g s) (s.front - oldest g s)

-- nothing waits at a concentrator that is shut
abbrev pub waits : ℕ → Whole → List Waiting
waits port w = on.if_open w.shut [] (ready port w.setting w.box)

-- what waits after each sequence of ticks and nexts
abbrev pub stacked : ℕ → Whole → Behaviour
stacked port w = behaviour step (waits port) w

-- what a next answers by the length of the frame that it wrote
abbrev pub taken_by : ℕ → Result ℕ Fault → Result Taken Fault
taken_by port (Ok len) = Ok (record { port = record { 0 = port }; len = len })
taken_by port (Err e) = Err e
