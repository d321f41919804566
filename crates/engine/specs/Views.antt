-- What an engine's own values stand for.
use Rattle.std.specs.Prelude.{ℕ, ◌+◌, cond, Some, None, Ok, Err, Result, slice_index}
use Rattle.common.specs.declared.fault.Fault.{Fault}
use Rattle.slots.specs.Slots.{frames_of}
use Rattle.plan.specs.Tables.{ports_of}
use Rattle.engine.specs.declared.terms.Terms.{Terms}
use Rattle.engine.specs.declared.engine.Engine.{Engine}
use Rattle.engine.specs.declared.counts.Counts.{Counts}
use Rattle.engine.specs.Boxes.{Setting, Box}
use Rattle.engine.specs.Calls.{begun, CountsOf}
use Rattle.engine.specs.States.{State}
use Rattle.engine.specs.Rings.{held_in, arrived_in}

-- what never changes of an engine that was opened with these terms
abbrev pub setting_by : Terms → Setting
setting_by t = record { id = t.plan.id.0; rate = frames_of t.rate; ports = ports_of t.plan.table; first = t.first }

-- what never changes of an engine
abbrev pub setting_of : Engine → Setting
setting_of e = setting_by e.terms

-- the oldest unwritten slot of an engine
abbrev pub oldest_of : Engine → ℕ
oldest_of e = e.terms.first + e.written

-- what changes of an engine
abbrev pub box_of : Engine → Box
box_of e =
    record {
      latest = e.latest;
      front = e.front;
      written = e.written;
      held = held_in (ports_of e.terms.plan.table) e.ring (oldest_of e);
      arrived = arrived_in e.ring (oldest_of e);
      out = cond e.ticket_out (Some (oldest_of e)) None;
      tally = λ v. slice_index e.tally v;
      judged = e.judged;
    }

-- what an engine stands for as a whole: why it is shut, if it is, its plan, what never changes, and what changes
abbrev pub state_of : Engine → State
state_of e = record { shut = e.terms.shut; plan = e.terms.plan; setting = setting_of e; box = box_of e }

-- what an engine stands for that was made of these terms at a reading, and holds nothing yet
abbrev pub fresh : Terms → ℕ → State
fresh t reading = record { shut = t.shut; plan = t.plan; setting = setting_by t; box = begun (setting_by t) reading }

-- what the counts say that a call handed out
abbrev pub counts_of : Counts → CountsOf
counts_of c = record { written = c.written; judged = c.judged; given = λ v. slice_index c.given v }

-- what a call for the counts answers, told by what they say; or the refusal
abbrev pub counts_by : Result Counts Fault → Result CountsOf Fault
counts_by (Ok c) = Ok (counts_of c)
counts_by (Err e) = Err e
