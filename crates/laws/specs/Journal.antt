-- The journal of a run: its calls with their answers, and what can be said of a run from these alone.
use Rattle.std.specs.Prelude.{◌≡◌, ℕ, zero, suc, ◌+◌, ◌-◌, ◌<◌, ◌≤◌, max, Bool, true, false, cond, ◌&&◌, List, [], ◌∷◌, ◌++◌, length, is_some, Some, None, Option, ◌==◌}
use Rattle.laws.specs.Setting.{Setting, Contents, Sort, Fault, Slot}
use Rattle.feed.specs.Feeds.{Op, Tick, Next, Behaviour}

infixl 30 ◌▹◌
infix 20 ◌≼◌
-- what has happened so far: nothing yet, or what happened before and then one thing more
pub data Past (A : Type 0) : Type 0 where
  start : Past A
  ◌▹◌ : Past A → A → Past A

-- one past is a beginning of another
pub data ◌≼◌ {A : Type 0} : Past A → Past A → Type 0 where
  all : {J : Past A} → J ≼ J
  more : {K J : Past A} {e : A} → K ≼ J → K ≼ J ▹ e

-- the calls: a tick with its reading and its scratch buffer's length, a frame for a port, a pull with its buffer's length, a take, a write with its ticket's number and its buffer's length, the counts
pub data Call : Type 0 where
  Ticking : ℕ → ℕ → Call
  Admitting : ℕ → List ℕ → Call
  Pulling : ℕ → Call
  Taking : Call
  Writing : ℕ → ℕ → Call
  Counting : Call

-- where a frame came from: the host admitted it, or it was pulled from the feed into a buffer of this length
pub data Source : Type 0 where
  Host : Source
  Feed : ℕ → Source

-- a call with its answer
pub data Event : Type 0 where
  -- a tick with this reading and a scratch buffer of this length was accepted
  Ticked : ℕ → ℕ → Event
  -- a frame was taken: its port, its bytes, and the verdict, 0 or a refusal's number
  Took : Source → ℕ → List ℕ → ℕ → Event
  -- a take handed out the ticket with this number
  Lent : ℕ → Event
  -- a write to a buffer of this length succeeded: the slot's number and the bytes of its frame
  Wrote : ℕ → ℕ → List ℕ → Event
  -- the counts: frames accepted, slots written, frames refused by number
  Told : ℕ → ℕ → (ℕ → ℕ) → Event
  -- the call was refused by this number, and took no frame
  Refused : Call → ℕ → Event

-- a journal: the events of a run, in order
abbrev pub Journal : Type 0
Journal = Past Event

-- a frame that was taken: where it came from, its port, its bytes and its verdict
pub record Taken : Type 0 where
  pub source : Source
  pub port : ℕ
  pub bytes : List ℕ
  pub verdict : ℕ

-- the frame that an event took
abbrev pub frame_of : Event → Option Taken
frame_of (Ticked r len) = None
frame_of (Took w p b v) = Some (record { source = w; port = p; bytes = b; verdict = v })
frame_of (Lent k) = None
frame_of (Wrote m n x) = None
frame_of (Told a m t) = None
frame_of (Refused c k) = None

-- the reading of an event that was an accepted tick
abbrev pub tick_of : Event → Option ℕ
tick_of (Ticked r len) = Some r
tick_of (Took w p b v) = None
tick_of (Lent k) = None
tick_of (Wrote m n x) = None
tick_of (Told a m t) = None
tick_of (Refused c k) = None

-- the latest reading after an event
abbrev pub later : ℕ → Option ℕ → ℕ
later l None = l
later l (Some r) = max r l

-- the latest reading: the greatest of the opening's and of accepted ticks' readings
abbrev pub latest : Setting → Journal → ℕ
latest g start = g.opening
latest g (J ▹ e) = later (latest g J) (tick_of e)

-- the number of writes after an event
abbrev pub writing : Event → ℕ → ℕ
writing (Ticked r len) i = i
writing (Took w p b v) i = i
writing (Lent k) i = i
writing (Wrote m n x) i = suc i
writing (Told a m t) i = i
writing (Refused c k) i = i

-- the number of writes that succeeded
abbrev pub writes : Journal → ℕ
writes start = 0
writes (J ▹ e) = writing e (writes J)

-- a frame that is this by itself is of slot n
abbrev pub in_slot : ℕ → Sort → Bool
in_slot n (Fault k) = false
in_slot n (Slot m) = m == n

-- a frame with these bytes is sound at the port, and of slot n
abbrev pub fits : Setting → ℕ → List ℕ → ℕ → Bool
fits g p b n = in_slot n (g.sound p b)

-- the first of two that is there
abbrev pub or_else : {A : Type 0} → Option A → Option A → Option A
or_else None y = y
or_else (Some x) y = Some x

-- what port p has in slot n after an event: what it had, or else the event's frame, if that is of p and n and was given 0
abbrev pub having : Setting → ℕ → ℕ → Option (List ℕ) → Option Taken → Option (List ℕ)
having g p n x None = x
having g p n x (Some f) = cond (f.verdict == 0 && (f.port == p && fits g f.port f.bytes n)) (or_else x (Some f.bytes)) x

-- the first accepted frame of port p for slot n
abbrev pub accepted : Setting → Journal → ℕ → ℕ → Option (List ℕ)
accepted g start p n = None
accepted g (J ▹ e) p n = having g p n (accepted g J p n) (frame_of e)

-- what slot n holds of all that was accepted so far
abbrev pub contents : Setting → Journal → ℕ → Contents
contents g J n = λ p. accepted g J p n

-- the combined frame of slot n, from all that was accepted so far
abbrev pub frame_at : Setting → Journal → ℕ → List ℕ
frame_at g J n = g.frame n (contents g J n)

-- a slot's first arrival after an event at latest reading l
abbrev pub reached : Setting → ℕ → ℕ → Option ℕ → Option Taken → Option ℕ
reached g l n x None = x
reached g l n x (Some f) = cond (f.verdict == 0 && fits g f.port f.bytes n) (or_else x (Some l)) x

-- a slot's first arrival: what the clock showed at the first frame that the slot took
abbrev pub arrival : Setting → Journal → ℕ → Option ℕ
arrival g start n = None
arrival g (J ▹ e) n = reached g (latest g J) n (arrival g J n) (frame_of e)

-- a slot is ripe once the clock has come to its closing reading
abbrev pub Ripe : Setting → Journal → ℕ → Type 0
Ripe g J n = g.closing (g.stamp n) (arrival g J n) ≤ latest g J

-- a slot is complete once it has taken a frame of each port
abbrev pub Complete : Setting → Journal → ℕ → Type 0
Complete g J n = (p : ℕ) → p < g.ports → is_some (accepted g J p n) ≡ true

-- a slot from the first on is closed once it or a later one is ripe, or once it is complete and all before it are closed; and then it stays closed
pub data Closed (g : Setting) : Journal → ℕ → Type 0 where
  by_time : {J : Journal} {n : ℕ} (m : ℕ) → g.first ≤ n → n ≤ m → Ripe g J m → Closed g J n
  by_frames : {J : Journal} {n : ℕ} → g.first ≤ n → Complete g J n → ((k : ℕ) → g.first ≤ k → k < n → Closed g J k) → Closed g J n
  still : {J : Journal} {e : Event} {n : ℕ} → Closed g J n → Closed g (J ▹ e) n

-- 1 if it holds, else 0
abbrev pub one : Bool → ℕ
one b = cond b 1 0

-- the number of frames given v after an event
abbrev pub counting : ℕ → ℕ → Option Taken → ℕ
counting v i None = i
counting v i (Some f) = i + one (f.verdict == v)

-- the number of frames taken and given verdict v: those accepted at 0, those refused by number above
abbrev pub tally : Journal → ℕ → ℕ
tally start v = 0
tally (J ▹ e) v = counting v (tally J v) (frame_of e)

-- the sum of a function at 1 to k
unfoldable pub total : (ℕ → ℕ) → ℕ → ℕ
total f zero = 0
total f (suc k) = total f k + f (suc k)

-- the number of frames taken and refused, by any number from 1 to 30
abbrev pub refused : Journal → ℕ
refused J = total (tally J) 30

-- the number of frames taken
abbrev pub judged : Journal → ℕ
judged J = tally J 0 + refused J

-- the ticket out after a refused call
abbrev pub spent : Call → ℕ → Option ℕ → Option ℕ
spent (Ticking r len) k o = o
spent (Admitting q b) k o = o
spent (Pulling len) k o = o
spent Taking k o = o
spent (Writing n len) k o = cond (k == 17) None o
spent Counting k o = o

-- the ticket out after an event
abbrev pub lending : Event → Option ℕ → Option ℕ
lending (Ticked r len) o = o
lending (Took w p b v) o = o
lending (Lent k) o = Some k
lending (Wrote m n x) o = None
lending (Told a m t) o = o
lending (Refused c k) o = spent c k o

-- the ticket that is out: the last one lent, unless a write has succeeded since, or has put the slot back for want of room
abbrev pub ticket_out : Journal → Option ℕ
ticket_out start = None
ticket_out (J ▹ e) = lending e (ticket_out J)

-- what a port can see of a run: a tick with the reading it left as the latest, or a frame of its own that was taken
pub data Sight : Type 0 where
  Time : ℕ → Sight
  Own : List ℕ → Sight

-- what is seen after a tick, if it was one
abbrev pub see_tick : ℕ → List Sight → Option ℕ → List Sight
see_tick l v None = v
see_tick l v (Some r) = Time (max r l) ∷ v

-- what port q sees after a frame, if one was taken
abbrev pub see_frame : ℕ → List Sight → Option Taken → List Sight
see_frame q v None = v
see_frame q v (Some f) = cond (f.port == q) (Own f.bytes ∷ v) v

-- the run as port q sees it, the last first: the ticks, and between them q's frames in order, whatever came of them
abbrev pub seen : Setting → ℕ → Journal → List Sight
seen g q start = []
seen g q (J ▹ e) = see_frame q (see_tick (latest g J) (seen g q J) (tick_of e)) (frame_of e)

-- what was done to the feed after a tick, if it was one
abbrev pub do_tick : ℕ → List Op → Option ℕ → List Op
do_tick l os None = os
do_tick l os (Some r) = os ++ (Tick (max r l) ∷ [])

-- what was done to the feed after a frame from this source
abbrev pub do_next : List Op → Source → List Op
do_next os Host = os
do_next os (Feed len) = os ++ (Next ∷ [])

-- what was done to the feed after a frame, if one was taken
abbrev pub do_frame : List Op → Option Taken → List Op
do_frame os None = os
do_frame os (Some f) = do_next os f.source

-- what a run does to its feed: a tick with the latest reading for each accepted tick, a next for each frame pulled
abbrev pub ops : Setting → Journal → List Op
ops g start = []
ops g (J ▹ e) = do_frame (do_tick (latest g J) (ops g J) (tick_of e)) (frame_of e)

-- one more if the host admitted it
abbrev pub by_host : ℕ → Source → ℕ
by_host i Host = suc i
by_host i (Feed len) = i

-- the number of frames admitted after an event
abbrev pub admitting : ℕ → Option Taken → ℕ
admitting i None = i
admitting i (Some f) = by_host i f.source

-- the number of frames taken by admit
abbrev pub admitted : Journal → ℕ
admitted start = 0
admitted (J ▹ e) = admitting (admitted J) (frame_of e)

-- the number of frames added to the feed after an event
abbrev pub adding : Behaviour → List Op → ℕ → ℕ → Option ℕ → ℕ
adding B os l i None = i
adding B os l i (Some r) = i + (length (B (os ++ (Tick (max r l) ∷ []))) - length (B os))

-- the number of frames that ticks added to the feed: at each, what waited after less what waited before
abbrev pub added : Setting → Behaviour → Journal → ℕ
added g B start = 0
added g B (J ▹ e) = adding B (ops g J) (latest g J) (added g B J) (tick_of e)
