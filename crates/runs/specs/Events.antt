-- What the concentrator's calls answer, as events of a journal.
use Rattle.std.specs.Prelude.{ℕ, cond, List, map, None, Ok, Err, Result, ◌==◌}
use Rattle.common.specs.declared.fault.Fault as the_fault
use Rattle.common.specs.Faults.{number}
use Rattle.engine.specs.Boxes as E
use Rattle.engine.specs.Calls.{CountsOf, verdict_number_of}
use Rattle.concentrator.specs.Wholes.{Whole}
use Rattle.laws.specs.Journal.{Ticking, Admitting, Pulling, Taking, Writing, Counting, Host, Feed, Event, Ticked, Took, Lent, Wrote, Told, Refused}
use Rattle.laws.specs.Machine.{State}
use Rattle.runs.specs.Models.{box_of}
use Rattle.runs.specs.Entries.{PulledOf, EntryOf, ticked, admitted, pulled, taken, wrote, counted}

-- the concentrator as a whole, as the machine has it
abbrev pub whole_of : E.Setting → E.Closing → State → Whole
whole_of e closing s = record { shut = None; setting = e; closing = closing; box = box_of e s; feed = s.feed }

-- a tick as an event: accepted, with its reading, or refused by a number
abbrev pub tick_event : ℕ → ℕ → Result Unit the_fault.Fault → Event
tick_event r len (Ok u) = Ticked r len
tick_event r len (Err f) = Refused (Ticking r len) (number f)

-- 28 is the one refusal with which an open concentrator takes no frame
abbrev pub admit_event : ℕ → List ℕ → Result Unit the_fault.Fault → Event
admit_event q b (Ok u) = Took Host q b 0
admit_event q b (Err f) = cond (number f == 28) (Refused (Admitting q b) 28) (Took Host q b (number f))

-- a pull as an event: a frame was taken, whatever its verdict, or the call was refused
abbrev pub pull_event : ℕ → Result PulledOf the_fault.Fault → Event
pull_event room (Ok x) = Took (Feed room) x.port x.bytes (verdict_number_of x.verdict)
pull_event room (Err f) = Refused (Pulling room) (number f)

-- a take as an event: the number of the ticket that it handed out, or its refusal's
abbrev pub take_event : Result ℕ the_fault.Fault → Event
take_event (Ok k) = Lent k
take_event (Err f) = Refused Taking (number f)

-- a write as an event: the slot's number and the bytes of its frame, or the refusal
abbrev pub write_event : ℕ → ℕ → Result (List ℕ) the_fault.Fault → Event
write_event n room (Ok bytes) = Wrote room n bytes
write_event n room (Err f) = Refused (Writing n room) (number f)

-- the counts as an event: frames accepted, slots written and frames by number, or the refusal
abbrev pub counts_event : Result CountsOf the_fault.Fault → Event
counts_event (Ok c) = Told (c.given 0) c.written c.given
counts_event (Err f) = Refused Counting (number f)

-- an entry as an event
abbrev pub event_of : EntryOf → Event
event_of (ticked r room a) = tick_event r room a
event_of (admitted q bytes a) = admit_event q bytes a
event_of (pulled room a) = pull_event room a
event_of (taken a) = take_event a
event_of (wrote n room a) = write_event n room a
event_of (counted a) = counts_event a

-- entries as the events of a journal, in their order
abbrev pub events_of : List EntryOf → List Event
events_of es = map event_of es
