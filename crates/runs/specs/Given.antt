-- What calls and entries, as the program has them, stand for.
use Rattle.std.specs.Prelude.{ℕ, Bool, true, false, List, map, replicate, Ok, Err, Result}
use Rattle.std.specs.declared.vec.Vec.{Vec}
use Rattle.common.specs.declared.fault.Fault.{Fault}
use Rattle.engine.specs.Views.{counts_by}
use Rattle.feed.specs.declared.feed.Feed as feed
use Rattle.policy.specs.declared.policy.Policy as policy
use Rattle.concentrator.specs.Wholes.{Whole, whole}
use Rattle.runs.specs.declared.host.Host.{Host}
use Rattle.runs.specs.declared.call.Call.{Call}
use Rattle.runs.specs.declared.call.Call.TheVariants as call
use Rattle.runs.specs.declared.entry.Entry.{Entry}
use Rattle.runs.specs.declared.entry.Entry.TheVariants as entry
use Rattle.runs.specs.declared.entry.PulledFrame.{PulledFrame}
use Rattle.runs.specs.Requests.{Request, ticking, admitting, pulling, taking, writing, counting}
use Rattle.runs.specs.Entries.{PulledOf, EntryOf, ticked, admitted, pulled, taken, wrote, counted}

-- a call, with the buffer that is lent to it: new, and all zeros
abbrev pub request_of : Call → Request
request_of (call.Tick r room) = ticking r (replicate room 0)
request_of (call.Admit q frame) = admitting q.0 frame.now
request_of (call.Pull room) = pulling (replicate room 0)
request_of call.Take = taking
request_of (call.Write n room) = writing n room
request_of call.Counts = counting

-- the same of a list of calls, each with a buffer of its own
abbrev pub requests_of : List Call → List Request
requests_of cs = map request_of cs

-- a call to which a buffer is lent
abbrev pub takes_room : Call → Bool
takes_room (call.Tick r room) = true
takes_room (call.Admit q frame) = false
takes_room (call.Pull room) = true
takes_room call.Take = false
takes_room (call.Write n room) = true
takes_room call.Counts = false

-- ---- what an entry stands for
-- what a pull answered, with its frame's bytes as a list
abbrev pub pulled_by : Result PulledFrame Fault → Result PulledOf Fault
pulled_by (Ok x) = Ok (record { port = x.port.0; bytes = x.frame.items; verdict = x.verdict })
pulled_by (Err f) = Err f

-- what a write answered, with its frame's bytes as a list
abbrev pub bytes_by : {Z : Type 0} → Result (Vec ℕ Z) Fault → Result (List ℕ) Fault
bytes_by (Ok v) = Ok v.items
bytes_by (Err f) = Err f

-- a call with its inputs and its answer, as the program's entry has them
abbrev pub entry_of : Entry → EntryOf
entry_of (entry.Tick r room a) = ticked r room a
entry_of (entry.Admit q frame a) = admitted q.0 frame.now a
entry_of (entry.Pull room a) = pulled room (pulled_by a)
entry_of (entry.Take a) = taken a
entry_of (entry.Write n room a) = wrote n room (bytes_by a)
entry_of (entry.Counts a) = counted (counts_by a)

-- the same of all entries of the program's journal, in their order
abbrev pub entries_of : {Z : Type 0} → Vec Entry Z → List EntryOf
entries_of v = map entry_of v.items

-- the concentrator of a host
abbrev pub standing : {F P : Type 0} {f : feed.Ghosts F} {p : policy.Ghosts P} → Host F P f p → Whole
standing h = whole h.concentrator
