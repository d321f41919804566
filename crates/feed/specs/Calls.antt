-- What the calls of a feed answer, and what they leave.
use Rattle.std.specs.Prelude.{ℕ, Bool, cond, List, [], ◌∷◌, length, Ok, Err, Result, nat_lt}
use Rattle.common.specs.declared.fault.Fault.{Fault}
use Rattle.common.specs.declared.fault.Fault.TheVariants.{Buffer, NothingWaits}
use Rattle.fields.specs.Fields.{over}
use Rattle.feed.specs.declared.feed.Taken.{Taken}
use Rattle.feed.specs.Feeds.{Waiting, Tick, Next, Behaviour, after}

-- a buffer that cannot hold every frame
abbrev pub short : List ℕ → Bool
short buffer = nat_lt (length buffer) 1040

-- a tick: only a short buffer is refused, and then nothing is done
abbrev pub tick_said : List ℕ → Result Unit Fault
tick_said scratch = cond (short scratch) (Err Buffer) (Ok tt)

-- what a feed means after a tick with a scratch buffer: what comes once the tick is done, or what it meant if the buffer is short
abbrev pub tick_left : Behaviour → ℕ → List ℕ → Behaviour
tick_left m reading scratch = cond (short scratch) m (after m (Tick reading))

-- the first of two values if something waits, else the second
abbrev pub pick : {A : Type 0} → List Waiting → A → A → A
pick [] some none = none
pick (w ∷ ws) some none = some

-- what a next answers of the frames that wait: line and length of the first
abbrev pub first_taken : List Waiting → Result Taken Fault
first_taken [] = Err NothingWaits
first_taken (w ∷ ws) = Ok (record { port = record { 0 = w.port }; len = length w.bytes })

-- the buffer with the first frame at its front
abbrev pub first_over : List Waiting → List ℕ → List ℕ
first_over [] buffer = buffer
first_over (w ∷ ws) buffer = over w.bytes buffer

-- a next: a short buffer is refused first, and want of a frame next; a refusal changes nothing
abbrev pub next_said : List Waiting → List ℕ → Result Taken Fault
next_said ws buffer = cond (short buffer) (Err Buffer) (first_taken ws)

-- what a next leaves in its buffer: the first frame at its front; refused, it is as it was
abbrev pub next_buffer : List Waiting → List ℕ → List ℕ
next_buffer ws buffer = cond (short buffer) buffer (first_over ws buffer)

-- what a feed means after a next: what comes once the first frame is taken; refused, what it meant
abbrev pub next_left : Behaviour → List ℕ → Behaviour
next_left m buffer = cond (short buffer) m (pick (m []) (after m Next) m)
