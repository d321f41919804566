-- The concentrator as a machine on values: what each call answers, and what the answer changes.
use Rattle.std.specs.Prelude.{ℕ, zero, suc, ◌+◌, ◌-◌, max, Bool, true, false, cond, not, ◌&&◌, ◌||◌, List, [], ◌∷◌, is_some, Some, None, Option, ◌==◌, nat_le, nat_lt}
use Rattle.laws.specs.Setting.{Setting, Contents, Sort, Fault, Slot}
use Rattle.feed.specs.Feeds.{Tick, Next, Behaviour, Waiting, after}
use Rattle.laws.specs.Journal.{Past, start, ◌▹◌, Call, Ticking, Admitting, Pulling, Taking, Writing, Counting, Source, Host, Feed, Event, Ticked, Took, Lent, Wrote, Told, Refused, Journal, or_else, one}
use Rattle.common.specs.Readings.{last_reading}

-- what the machine keeps between calls
pub record State : Type 0 where
  pub feed : Behaviour
  pub latest : ℕ
  pub front : ℕ
  -- by slot and port, the bytes of the frame in it, for slots that are not written
  pub held : ℕ → Contents
  -- by slot, its first arrival, for slots that are not written
  pub arrived : ℕ → Option ℕ
  pub written : ℕ
  -- the number of the ticket that is out
  pub out : Option ℕ
  -- by verdict, the frames given it
  pub tally : ℕ → ℕ
  -- all frames taken
  pub judged : ℕ

-- the oldest unwritten slot
abbrev pub oldest : Setting → State → ℕ
oldest g s = g.first + s.written

-- a frame of each port below k is there
abbrev pub all_held : Contents → ℕ → Bool
all_held x zero = true
all_held x (suc k) = is_some (x k) && all_held x k

-- slot n has a frame of every port
abbrev pub full : Setting → State → ℕ → Bool
full g s n = all_held (s.held n) g.ports

-- slot n is one of the 32 from the oldest unwritten one on: only these hold frames
abbrev pub within_window : ℕ → ℕ → Bool
within_window o n = nat_le o n && nat_lt n (o + 32)

-- slot n is one that may hold frames, and has a frame of every port
abbrev pub complete : Setting → State → ℕ → Bool
complete g s n = within_window (oldest g s) n && full g s n

-- the closing reading of slot n has come
abbrev pub ripe : Setting → State → ℕ → Bool
ripe g s n = nat_le (g.closing (g.stamp n) (s.arrived n)) s.latest

-- one past the highest of the numbers below k that pass, else 0
unfoldable pub highest : (ℕ → Bool) → ℕ → ℕ
highest r zero = 0
highest r (suc k) = cond (r k) (suc k) (highest r k)

-- the first number from f on that does not pass, of at most k
unfoldable pub beyond : (ℕ → Bool) → ℕ → ℕ → ℕ
beyond r zero f = f
beyond r (suc k) f = cond (r f) (beyond r k (suc f)) f

-- where the front stands once every slot up to the highest ripe one is closed
abbrev pub past_ripe_of : Setting → State → ℕ
past_ripe_of g s = max s.front (highest (ripe g s) (g.upto s.latest))

-- from f on, past each complete slot; no frame is accepted for a slot whose stamp is over 100,000 past the latest reading
abbrev pub past_complete_of : Setting → State → ℕ → ℕ
past_complete_of g s f = beyond (complete g s) (g.upto (s.latest + 100000) - f) f

-- the state with another front
abbrev pub with_front : State → ℕ → State
with_front s f = record { feed = s.feed; latest = s.latest; front = f; held = s.held; arrived = s.arrived; written = s.written; out = s.out; tally = s.tally; judged = s.judged }

-- at the opening and after a tick: all up to the highest ripe slot is closed, and then each complete slot that follows
abbrev pub settled : Setting → State → State
settled g s = with_front s (past_complete_of g s (past_ripe_of g s))

-- where the front stands after a frame for slot n, which was the slot's first or not: only the first can have made a slot ripe, and only its own
abbrev pub ripened_by : Setting → State → ℕ → Bool → ℕ
ripened_by g s n first = cond (first && ripe g s n) (max s.front (n + 1)) s.front

-- after a frame for slot n: the front moves past that slot if the frame made it ripe, and then past each complete slot
abbrev pub settled_by : Setting → State → ℕ → Bool → State
settled_by g s n first = with_front s (past_complete_of g s (ripened_by g s n first))

-- the verdict on a frame of port q, by what the frame is in itself
abbrev pub judge_in : Setting → State → ℕ → Sort → ℕ
judge_in g s q (Fault k) = k
judge_in g s q (Slot n) =
    cond (nat_lt (s.latest + 100000) (g.stamp n)) 10
    (cond (nat_lt n s.front) 20
    (cond (nat_le (oldest g s + 32) n) 22
    (cond (is_some (s.held n q)) 21 0)))

-- the verdict on a frame for a port
abbrev pub judge : Setting → State → ℕ → List ℕ → ℕ
judge g s q b = judge_in g s q (g.sound q b)

-- how many frames may be judged
abbrev pub limit : ℕ
limit = 1000000000000000

-- a buffer that cannot hold every frame
abbrev pub short : ℕ → Bool
short len = nat_lt len 1040

-- a reading that a tick refuses
abbrev pub too_large : State → ℕ → Bool
too_large s r = nat_lt last_reading r || nat_lt (s.latest + 60000000) r

-- what a pull answers, by what waits
abbrev pub pulls : Setting → State → ℕ → List Waiting → Event
pulls g s len [] = Refused (Pulling len) 30
pulls g s len (f ∷ fs) = Took (Feed len) f.port f.bytes (judge g s f.port f.bytes)

-- what a take answers, by the ticket that is out
abbrev pub lends : Setting → State → Option ℕ → Event
lends g s (Some k) = Refused Taking 24
lends g s None = cond (nat_lt (oldest g s) s.front) (Lent (oldest g s)) (Refused Taking 23)

-- the ticket with number k is out
abbrev pub is_out : Option ℕ → ℕ → Bool
is_out None k = false
is_out (Some n) k = n == k

-- what a call answers
abbrev pub event : Setting → State → Call → Event
event g s (Ticking r len) = cond (short len) (Refused (Ticking r len) 17) (cond (too_large s r) (Refused (Ticking r len) 14) (Ticked r len))
event g s (Admitting q b) = cond (nat_le limit s.judged) (Refused (Admitting q b) 28) (Took Host q b (judge g s q b))
event g s (Pulling len) = cond (short len) (Refused (Pulling len) 17) (cond (nat_le limit s.judged) (Refused (Pulling len) 28) (pulls g s len (s.feed [])))
event g s Taking = lends g s s.out
event g s (Writing k len) =
    cond (is_out s.out k) (cond (nat_lt len g.size) (Refused (Writing k len) 17) (Wrote len k (g.frame k (s.held k)))) (Refused (Writing k len) 29)
event g s Counting = Told (s.tally 0) s.written s.tally

-- the feed after a frame from this source
abbrev pub fed : Source → Behaviour → Behaviour
fed Host m = m
fed (Feed len) m = after m Next

-- a frame from this source was taken and given verdict v
abbrev pub tallied : State → Source → ℕ → State
tallied s w v = record { feed = fed w s.feed; latest = s.latest; front = s.front; held = s.held; arrived = s.arrived; written = s.written; out = s.out; tally = λ u. s.tally u + one (v == u); judged = suc s.judged }

-- a frame of port q stands in slot n from now on
abbrev pub put : State → ℕ → List ℕ → ℕ → State
put s q b n = record { feed = s.feed; latest = s.latest; front = s.front; held = λ k p. cond (n == k && q == p) (Some b) (s.held k p); arrived = λ k. cond (n == k) (or_else (s.arrived k) (Some s.latest)) (s.arrived k); written = s.written; out = s.out; tally = s.tally; judged = s.judged }

-- an accepted frame is put into its slot, and the front moves
abbrev pub placed : Setting → State → ℕ → List ℕ → ℕ → Sort → State
placed g s q b v (Fault k) = s
placed g s q b v (Slot n) = cond (v == 0) (settled_by g (put s q b n) n (not (is_some (s.arrived n)))) s

-- the latest reading is l, and the feed was ticked with it
abbrev pub timed : State → ℕ → State
timed s l = record { feed = after s.feed (Tick l); latest = l; front = s.front; held = s.held; arrived = s.arrived; written = s.written; out = s.out; tally = s.tally; judged = s.judged }

-- this ticket is out, or none
abbrev pub ticket : State → Option ℕ → State
ticket s o = record { feed = s.feed; latest = s.latest; front = s.front; held = s.held; arrived = s.arrived; written = s.written; out = o; tally = s.tally; judged = s.judged }

-- the oldest slot is written: its place is cleared and its ticket spent
abbrev pub cleared : State → ℕ → State
cleared s n = record { feed = s.feed; latest = s.latest; front = s.front; held = λ k p. cond (n == k) None (s.held k p); arrived = λ k. cond (n == k) None (s.arrived k); written = suc s.written; out = None; tally = s.tally; judged = s.judged }

-- what a refused call changes: a write for want of room puts its slot back
abbrev pub without : State → Call → ℕ → State
without s (Ticking r len) k = s
without s (Admitting q b) k = s
without s (Pulling len) k = s
without s Taking k = s
without s (Writing n len) k = cond (k == 17) (ticket s None) s
without s Counting k = s

-- what an answered call changes
abbrev pub next : Setting → State → Event → State
next g s (Ticked r len) = settled g (timed s (max r s.latest))
next g s (Took w q b v) = tallied (placed g s q b v (g.sound q b)) w v
next g s (Lent k) = ticket s (Some k)
next g s (Wrote len n x) = cleared s n
next g s (Told a m t) = s
next g s (Refused c k) = without s c k

-- the state at the opening
abbrev pub opened : Setting → Behaviour → State
opened g B = settled g (record { feed = B; latest = g.opening; front = g.first; held = λ n p. None; arrived = λ n. None; written = 0; out = None; tally = λ v. 0; judged = 0 })

-- the state after a run of calls
abbrev pub state : Setting → Behaviour → Past Call → State
state g B start = opened g B
state g B (cs ▹ c) = next g (state g B cs) (event g (state g B cs) c)

-- the journal of a run of calls
abbrev pub journal : Setting → Behaviour → Past Call → Journal
journal g B start = start
journal g B (cs ▹ c) = journal g B cs ▹ event g (state g B cs) c

-- a past and then a list of things, in order
abbrev pub onto : {A : Type 0} → Past A → List A → Past A
onto K [] = K
onto K (x ∷ xs) = onto (K ▹ x) xs

-- what a list of calls answers, in order
abbrev pub answers : Setting → State → List Call → List Event
answers g s [] = []
answers g s (c ∷ cs) = event g s c ∷ answers g (next g s (event g s c)) cs
