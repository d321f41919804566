-- What a recorded feed means.
use Rattle.std.specs.Prelude.{ℕ, Bool, List, [], length, take, drop, Some, None, Option, is_some}
use Rattle.std.proofs.ByRecursion.{All-take, All-drop}
use Rattle.capture.specs.declared.capture.Capture.{Capture}
use Rattle.capture.specs.Captures.{to_come}
use Rattle.capture.specs.Records.{Entry}
use Rattle.feed.specs.Feeds.{Meaning}
use Rattle.recorded.specs.declared.recorded.Recorded.{Recorded}
use Rattle.recorded.specs.Queues.{Queue, due, playing}
use Rattle.recorded.specs.Lawfulness.{Carries, Held, leading_carries, queue-lawful}
use Rattle.std.specs.List.{AllByRecursion}

-- how many records from the first on have come by the highest reading ticked; before the first tick, none
abbrev pub due_by : Option ℕ → List Entry → ℕ
due_by None es = 0
due_by (Some reading) es = due reading es

-- the first n records wait, and the others are still to come
abbrev pub parted : ℕ → List Entry → Queue
parted n es = record { waiting = take n es; coming = drop n es }

-- the records that are not yet taken; an unsound capture has none
abbrev pub untaken : Option Capture → List Entry
untaken None = []
untaken (Some c) = to_come c

-- the records that wait, and those still to come
abbrev pub queue_of : Recorded → Queue
queue_of s = parted (due_by s.latest (untaken s.records)) (untaken s.records)

-- a feed is that of a sound capture
abbrev pub sound_of : Recorded → Bool
sound_of s = is_some s.records

-- a feed can carry the frame of every record that is not yet taken
untaken_carries : (o : Option Capture) → AllByRecursion Carries (untaken o)
untaken_carries None = tt
untaken_carries (Some c) = leading_carries (length c.rest.now) c.rest.now

-- a feed can carry the frame of every record that is not yet taken
pub queue-held : (s : Recorded) → Held (queue_of s)
queue-held s =
    let n = due_by s.latest (untaken s.records) in
    let c = untaken_carries s.records in
    (All-take Carries n (untaken s.records) c, All-drop Carries n (untaken s.records) c)

-- what waits at a recorded feed after each sequence of ticks and nexts, which is lawful
abbrev pub meaning_of : Recorded → Meaning
meaning_of s = record { waits = playing (queue_of s); lawful = queue-lawful (queue_of s) (queue-held s) }
