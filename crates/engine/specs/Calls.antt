-- What each call answers, and what it leaves.
use Rattle.std.specs.Prelude.{◌≡◌, ℕ, suc, ◌+◌, ◌<◌, max, Bool, false, cond, not, ◌&&◌, ◌||◌, List, length, is_some, Some, None, Ok, Err, Option, Result, ◌==◌, nat_le, nat_lt}
use Rattle.common.specs.declared.fault.Fault.{Fault}
use Rattle.common.specs.declared.fault.Fault.TheVariants as fault
use Rattle.common.specs.Faults.{number_in}
use Rattle.slots.specs.Slots.{first_slot, window_fits}
use Rattle.plan.specs.Plans.{PlanOf}
use Rattle.sample.specs.Samples.{SampleOf, sample_of}
use Rattle.cells.specs.Cells.{or_else}
use Rattle.combined.specs.Blocks.{port_at, width_of}
use Rattle.combined.specs.Frames.{slot_frame, slot_length}
use Rattle.common.specs.Readings.{last_reading}
use Rattle.engine.specs.Limits.{longest_step, earliest, window, most_frames}
use Rattle.engine.specs.Boxes.{Setting, Closing, Box, stamp, oldest}
use Rattle.engine.specs.Closing.{settled, settled_by}

-- ---- shut: a call answers the refusal and changes nothing
-- what a call answers: the refusal if it is shut, else the answer r
abbrev pub unless_shut : {A : Type 0} → Option Fault → Result A Fault → Result A Fault
unless_shut (Some f) r = Err f
unless_shut None r = r

-- of two values the first if it is shut, and the second if it is open: what a call changes stays as it was if shut
abbrev pub if_open : {A : Type 0} → Option Fault → A → A → A
if_open (Some f) before after = before
if_open None before after = after

-- ---- opening
-- the refusal against which an engine is shut: a reading that is too large, a plan without ports, a wait that is too long; a plan whose rate is out of range has no ports
abbrev pub open_fault : PlanOf → ℕ → ℕ → Option Fault
open_fault p bound reading =
    cond (nat_lt last_reading reading) (Some fault.Reading)
    (cond (length p.ports == 0 || not (nat_le 1 p.rate && nat_le p.rate 120)) (Some fault.EmptyPlan)
    (cond (window_fits p.rate bound) None (Some fault.WaitTooLong)))

-- what never changes of an engine opened with the plan: its slots begin with the first that the reading has not passed
abbrev pub open_setting : PlanOf → ℕ → Setting
open_setting p reading = record { id = p.id; rate = p.rate; ports = p.ports; first = first_slot p.rate reading }

-- before any slot is closed: nothing is held, written, out or judged, and the front is the first slot
abbrev pub begun : Setting → ℕ → Box
begun g reading =
    record { latest = reading; front = g.first; written = 0; held = λ n p. None; arrived = λ n. None; out = None; tally = λ v. 0; judged = 0 }

-- what an engine keeps once it is opened: no frames yet, the reading, and which slots are closed already
abbrev pub opened : Closing → Setting → ℕ → Box
opened closing g reading = settled closing g (begun g reading)

-- ---- tick
-- what a tick answers: the latest reading from then on, or that the reading is too large or too far past the latest
abbrev pub tick_said : Box → ℕ → Result ℕ Fault
tick_said s reading =
    cond (nat_lt last_reading reading || nat_lt (s.latest + longest_step) reading) (Err fault.Reading) (Ok (max reading s.latest))

-- a box whose latest reading is l from now on
abbrev pub timed : Box → ℕ → Box
timed s l =
    record { latest = l; front = s.front; written = s.written; held = s.held; arrived = s.arrived; out = s.out; tally = s.tally; judged = s.judged }

-- a reading that was accepted is the latest, and slots may close; after a refusal nothing has changed
abbrev pub tick_by : Closing → Setting → Box → Result ℕ Fault → Box
tick_by closing g s (Ok l) = settled closing g (timed s l)
tick_by closing g s (Err e) = s

-- what a tick with a reading leaves of the box
abbrev pub ticked : Closing → Setting → Box → ℕ → Box
ticked closing g s reading = tick_by closing g s (tick_said s reading)

-- ---- judging a frame
-- the slot of a sample: not too early, open, near enough, and without the port
abbrev pub slot_judged : Setting → Box → ℕ → ℕ → Result Unit Fault
slot_judged g s q n =
    cond (nat_lt (s.latest + earliest) (stamp g n)) (Err fault.TooEarly)
    (cond (nat_lt n s.front) (Err fault.Closed)
    (cond (nat_le (oldest g s + window) n) (Err fault.TooFarAhead) (cond (is_some (s.held n q)) (Err fault.Repeated) (Ok tt))))

-- a value if a check has passed, else the refusal of the check
abbrev pub passing : {A : Type 0} → A → Result Unit Fault → Result A Fault
passing x (Ok u) = Ok x
passing x (Err e) = Err e

-- a sample if its slot takes it for port q; else the refusal, that of the frame by itself before that of its slot
abbrev pub judged_in : Setting → Box → ℕ → Result SampleOf Fault → Result SampleOf Fault
judged_in g s q (Ok x) = passing x (slot_judged g s q x.slot)
judged_in g s q (Err e) = Err e

-- what a frame is by itself at a port: of none of the plan's ports, unsound, or a sample
abbrev pub sound_at : Setting → ℕ → List ℕ → Result SampleOf Fault
sound_at g q bytes = cond (nat_lt q (length g.ports)) (sample_of g.rate (port_at g.ports q) bytes) (Err fault.Port)

-- the sample of a frame that is accepted, or its refusal
abbrev pub judge : Setting → Box → ℕ → List ℕ → Result SampleOf Fault
judge g s q bytes = judged_in g s q (sound_at g q bytes)

-- what is known of a sample that is to be accepted: its port is the plan's, its body as wide as that port's, and its slot takes it
pub record Accepts (g : Setting) (s : Box) (q : ℕ) (x : SampleOf) : Type 0 where
  pub port : q < length g.ports
  pub body : length x.body ≡ width_of g.ports q
  pub slot : slot_judged g s q x.slot ≡ Ok tt

-- ---- taking a frame
-- that a frame is accepted, or its refusal
abbrev pub verdict_of : Result SampleOf Fault → Result Unit Fault
verdict_of (Ok x) = Ok tt
verdict_of (Err e) = Err e

-- the number of a verdict: 0 for accepted
abbrev pub verdict_number_of : Result Unit Fault → ℕ
verdict_number_of r = number_in r

-- how much a count grows: 1 if it is the one meant, else 0
abbrev pub one : Bool → ℕ
one b = cond b 1 0

-- one frame more was given the number
abbrev pub counted : Box → ℕ → Box
counted s v =
    record { latest = s.latest; front = s.front; written = s.written; held = s.held; arrived = s.arrived; out = s.out; tally = λ u. s.tally u + one (v == u); judged = suc s.judged }

-- a box once a sample of port q is kept: it is held in its slot, whose first arrival is now, if it had none
abbrev pub kept : Box → ℕ → SampleOf → Box
kept s q x =
    record {
      latest = s.latest;
      front = s.front;
      written = s.written;
      held = λ n p. cond (x.slot == n && q == p) (Some (record { quality = x.quality; body = x.body })) (s.held n p);
      arrived = λ n. cond (x.slot == n) (or_else (s.arrived n) (Some s.latest)) (s.arrived n);
      out = s.out;
      tally = s.tally;
      judged = s.judged;
    }

-- an accepted sample is kept, and slots may close
abbrev pub placed : Closing → Setting → Box → ℕ → Result SampleOf Fault → Box
placed closing g s q (Ok x) = settled_by closing g (kept s q x) x.slot (not (is_some (s.arrived x.slot)))
placed closing g s q (Err e) = s

-- so many frames have been judged that no more are
abbrev pub exhausted : Box → Bool
exhausted s = nat_le most_frames s.judged

-- what an admit of a frame for port q answers: its verdict, or that no more frames are judged
abbrev pub admit_said : Setting → Box → ℕ → List ℕ → Result Unit Fault
admit_said g s q bytes = cond (exhausted s) (Err fault.Exhausted) (verdict_of (judge g s q bytes))

-- a frame for port q is judged, kept if it is accepted, and counted by its verdict
abbrev pub received : Closing → Setting → Box → ℕ → List ℕ → Box
received closing g s q bytes = counted (placed closing g s q (judge g s q bytes)) (verdict_number_of (verdict_of (judge g s q bytes)))

-- what an admit of a frame for port q leaves of the box: once no more frames are judged it is as it was
abbrev pub admitted : Closing → Setting → Box → ℕ → List ℕ → Box
admitted closing g s q bytes = cond (exhausted s) s (received closing g s q bytes)

-- ---- counts
-- what counts tell: the slots written, the frames judged, and by number those that were given it, 0 for those accepted
pub record CountsOf : Type 0 where
  pub written : ℕ
  pub judged : ℕ
  pub given : ℕ → ℕ

-- what a box has counted so far
abbrev pub counts_in : Box → CountsOf
counts_in s = record { written = s.written; judged = s.judged; given = s.tally }

-- ---- take
-- what a take answers, by the ticket that is out
abbrev pub take_by : Setting → Box → Option ℕ → Result ℕ Fault
take_by g s (Some k) = Err fault.TicketOut
take_by g s None = cond (nat_lt (oldest g s) s.front) (Ok (oldest g s)) (Err fault.NoneClosed)

-- what a take answers: the oldest unwritten slot, or the refusal if a ticket is out or that slot is still open
abbrev pub take_said : Setting → Box → Result ℕ Fault
take_said g s = take_by g s s.out

-- a box with the ticket of this number out, or with none
abbrev pub with_ticket : Box → Option ℕ → Box
with_ticket s o =
    record { latest = s.latest; front = s.front; written = s.written; held = s.held; arrived = s.arrived; out = o; tally = s.tally; judged = s.judged }

-- the ticket that a take gave is out; after a refusal nothing has changed
abbrev pub lent_by : Box → Result ℕ Fault → Box
lent_by s (Ok k) = with_ticket s (Some k)
lent_by s (Err e) = s

-- what a take leaves of the box
abbrev pub lent : Setting → Box → Box
lent g s = lent_by s (take_said g s)

-- ---- write
-- the ticket with this number is out
abbrev pub is_out : Option ℕ → ℕ → Bool
is_out (Some k) n = k == n
is_out None n = false

-- what a write with the ticket n into so many bytes answers: the length, or that the ticket or the buffer is refused
abbrev pub write_said : Setting → Box → ℕ → ℕ → Result ℕ Fault
write_said g s n room =
    cond (is_out s.out n) (cond (nat_lt room (slot_length g.ports)) (Err fault.Buffer) (Ok (slot_length g.ports))) (Err fault.WrongTicket)

-- the frame of slot n, from what is held for it
abbrev pub frame_of : Setting → Box → ℕ → List ℕ
frame_of g s n = slot_frame g.id g.rate g.ports n (s.held n)

-- a box once slot n is written: its place is cleared, it counts, and its ticket is spent
abbrev pub cleared : Box → ℕ → Box
cleared s n =
    record {
      latest = s.latest;
      front = s.front;
      written = suc s.written;
      held = λ k p. cond (n == k) None (s.held k p);
      arrived = λ k. cond (n == k) None (s.arrived k);
      out = None;
      tally = s.tally;
      judged = s.judged;
    }

-- a box after a write with the ticket n: the slot is written, or put back with its ticket spent for want of room; a wrong ticket changes nothing
abbrev pub wrote_by : Setting → Box → ℕ → ℕ → Box
wrote_by g s n room =
    cond (is_out s.out n) (cond (nat_lt room (slot_length g.ports)) (with_ticket s None) (cleared s n)) s
