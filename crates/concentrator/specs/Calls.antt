-- What each call answers, what it leaves in its buffer, and what it leaves of the concentrator.
use Rattle.std.specs.Prelude.{ℕ, cond, List, [], ◌∷◌, length, Ok, Err, Result}
use Rattle.common.specs.declared.fault.Fault.{Fault}
use Rattle.common.specs.declared.fault.Fault.TheVariants.{Buffer, Exhausted, NothingWaits}
use Rattle.feed.specs.Feeds.{Waiting, Tick, Next, after}
use Rattle.feed.specs.Calls.{short, first_over}
use Rattle.engine.specs.Closing.{settled}
use Rattle.engine.specs.Calls as on
use Rattle.concentrator.specs.declared.calls.Pulled.{Pulled}
use Rattle.concentrator.specs.declared.calls.Written.{Written}
use Rattle.concentrator.specs.declared.ticket.Ticket.{Ticket}
use Rattle.concentrator.specs.Wholes.{Whole, moved}

-- ---- tick: a short buffer, then the reading; the feed is ticked with the latest reading, and slots close
-- that a call succeeded, without its value; or the refusal
abbrev pub done : {A : Type 0} → Result A Fault → Result Unit Fault
done (Ok x) = Ok tt
done (Err e) = Err e

-- what a tick answers: why it is shut, the refusal of the scratch buffer or of the reading, or success
abbrev pub tick_said : Whole → ℕ → List ℕ → Result Unit Fault
tick_said w reading scratch = on.unless_shut w.shut (cond (short scratch) (Err Buffer) (done (on.tick_said w.box reading)))

-- after a tick that made l the latest reading, feed and slots have moved on; after a refusal nothing has changed
abbrev pub ticked_by : Whole → Result ℕ Fault → Whole
ticked_by w (Ok l) = moved w (settled w.closing w.setting (on.timed w.box l)) (after w.feed (Tick l))
ticked_by w (Err e) = w

-- what a tick with a scratch buffer leaves of the concentrator; refused, it is as it was
abbrev pub ticked : Whole → ℕ → List ℕ → Whole
ticked w reading scratch = on.if_open w.shut w (cond (short scratch) w (ticked_by w (on.tick_said w.box reading)))

-- ---- admit
-- what an admit of a frame for port q answers: its verdict, why the concentrator is shut, or that no more frames are judged
abbrev pub admit_said : Whole → ℕ → List ℕ → Result Unit Fault
admit_said w q bytes = on.unless_shut w.shut (on.admit_said w.setting w.box q bytes)

-- what an admit of a frame for port q leaves of the concentrator; the feed has no part in it
abbrev pub admitted : Whole → ℕ → List ℕ → Whole
admitted w q bytes = on.if_open w.shut w (moved w (on.admitted w.closing w.setting w.box q bytes) w.feed)

-- ---- pull: a short buffer, then the count of frames, then want of a frame; else the first that waits is taken
-- what a pull answers by what waits: that nothing does, or port, length and verdict of the first frame
abbrev pub pulled_by : Whole → List Waiting → Result Pulled Fault
pulled_by w [] = Err NothingWaits
pulled_by w (f ∷ fs) =
    Ok (record { port = record { 0 = f.port }; len = length f.bytes; verdict = on.verdict_of (on.judge w.setting w.box f.port f.bytes) })

-- what a pull answers: a refusal, or port, length and verdict of the frame that it took
abbrev pub pull_said : Whole → List ℕ → Result Pulled Fault
pull_said w buffer =
    on.unless_shut w.shut (cond (short buffer) (Err Buffer) (cond (on.exhausted w.box) (Err Exhausted) (pulled_by w (w.feed []))))

-- what a pull leaves in its buffer: the frame that it took at the front; refused, it is as it was
abbrev pub pull_buffer : Whole → List ℕ → List ℕ
pull_buffer w buffer =
    on.if_open w.shut buffer (cond (short buffer) buffer (cond (on.exhausted w.box) buffer (first_over (w.feed []) buffer)))

-- the first frame that waits is gone from the feed, judged, kept if it is accepted, and counted; with none waiting nothing has changed
abbrev pub took_first : Whole → List Waiting → Whole
took_first w [] = w
took_first w (f ∷ fs) = moved w (on.received w.closing w.setting w.box f.port f.bytes) (after w.feed Next)

-- what a pull with a buffer leaves of the concentrator; refused, it is as it was
abbrev pub pulled : Whole → List ℕ → Whole
pulled w buffer =
    on.if_open w.shut w (cond (short buffer) w (cond (on.exhausted w.box) w (took_first w (w.feed []))))

-- ---- take
-- what a take answers, told by the number of the ticket; or the refusal
abbrev pub number_by : Result Ticket Fault → Result ℕ Fault
number_by (Ok t) = Ok t.number
number_by (Err e) = Err e

-- what a take answers: the number of the ticket, which is that of its slot, or the refusal
abbrev pub take_said : Whole → Result ℕ Fault
take_said w = on.unless_shut w.shut (on.take_said w.setting w.box)

-- what a take leaves of the concentrator: the ticket is out; refused, it is as it was
abbrev pub lent : Whole → Whole
lent w = on.if_open w.shut w (moved w (on.lent w.setting w.box) w.feed)

-- ---- write
-- what a write answers, told by the length of the frame; or the refusal
abbrev pub length_by : Result Written Fault → Result ℕ Fault
length_by (Ok x) = Ok x.len
length_by (Err e) = Err e

-- what a write with the ticket n into so many bytes answers: the frame's length, or the refusal
abbrev pub write_said : Whole → ℕ → ℕ → Result ℕ Fault
write_said w n room = on.unless_shut w.shut (on.write_said w.setting w.box n room)

-- the frame of slot n
abbrev pub frame_of : Whole → ℕ → List ℕ
frame_of w n = on.frame_of w.setting w.box n

-- what a write with the ticket n leaves of the concentrator: its slot is written, or put back for want of room; a wrong ticket changes nothing
abbrev pub wrote : Whole → ℕ → ℕ → Whole
wrote w n room = on.if_open w.shut w (moved w (on.wrote_by w.setting w.box n room) w.feed)

-- ---- counts
-- what a call for the counts answers: what was counted so far, or why the concentrator is shut
abbrev pub counts_said : Whole → Result on.CountsOf Fault
counts_said w = on.unless_shut w.shut (Ok (on.counts_in w.box))
