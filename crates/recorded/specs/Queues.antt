-- The records of a capture as a feed goes through them: those that wait, and those still to come.
use Rattle.std.specs.Prelude.{ℕ, Bool, cond, List, [], ◌∷◌, ◌++◌, map, take, drop, Some, None, Ok, Err, Option, Result, nat_le}
use Rattle.std.specs.List.{prefix_len}
use Rattle.common.specs.declared.fault.Fault.{Fault}
use Rattle.common.specs.declared.fault.Fault.TheVariants.{Unsound}
use Rattle.capture.specs.Records.{Entry, records_of}
use Rattle.feed.specs.Feeds.{Waiting, Op, Tick, Next, Behaviour}
use Rattle.feed.specs.Machines.{behaviour}

-- the records that wait, in their order, and those that are still to come
pub record Queue : Type 0 where
  pub waiting : List Entry
  pub coming : List Entry

-- a record has come by a reading
abbrev pub come : ℕ → Entry → Bool
come reading e = nat_le e.reading reading

-- how many records from the first on have come by a reading
abbrev pub due : ℕ → List Entry → ℕ
due reading es = prefix_len (come reading) es

-- a tick adds at the end the records that are due, and a next takes the first that waits
abbrev pub step : Queue → Op → Queue
step q (Tick r) =
    record { waiting = q.waiting ++ take (due r q.coming) q.coming; coming = drop (due r q.coming) q.coming }
step q Next = record { waiting = drop 1 q.waiting; coming = q.coming }

-- the record that stands at the front of a list, if any does
abbrev pub first : List Entry → Option Entry
first [] = None
first (e ∷ es) = Some e

-- a record, as a frame that waits
abbrev pub waiting_of : Entry → Waiting
waiting_of e = record { port = e.port; bytes = e.frame }

-- the frames that wait: those of the waiting records, in their order
abbrev pub waits : Queue → List Waiting
waits q = map waiting_of q.waiting

-- what waits after each sequence of ticks and nexts, from a queue on
abbrev pub playing : Queue → Behaviour
playing q = behaviour step waits q

-- before the first tick, all records are still to come; an unsound capture has none
abbrev pub begun : Result (List Entry) Fault → Queue
begun (Ok es) = record { waiting = []; coming = es }
begun (Err e) = record { waiting = []; coming = [] }

-- the feed of the bytes of a capture
abbrev pub played : List ℕ → Behaviour
played bs = playing (begun (records_of bs))

-- what a check answers of a capture that is sound or not
abbrev pub soundness : Bool → Result Unit Fault
soundness sound = cond sound (Ok tt) (Err Unsound)
