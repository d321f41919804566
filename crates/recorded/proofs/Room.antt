-- The calls of a recorded feed, with room in the buffer.
use Rattle.std.proofs.Common.{◌≡◌, ℕ, false, List, [], ◌∷◌, ◌++◌, length, drop, Some, Ok, sym, ap, ◌∙◌, subst}
use Rattle.std.specs.List.{AllByRecursion}
use Rattle.std.proofs.lemmas.Bool.{cond-false}
use Rattle.capture.specs.Records.{Entry}
use Rattle.feed.specs.declared.feed.Taken.{Taken}
use Rattle.feed.specs.Calls.{short, tick_said, tick_left}
use Rattle.feed.specs.Feeds.{Tick, Next}
use Rattle.feed.proofs.Nexts.{Nexted, by-room}
use Rattle.recorded.specs.Queues.{Queue, step, first, playing}
use Rattle.recorded.specs.Lawfulness.{Carries}

-- a check that succeeds found room
pub roomy : (b : List ℕ) → Ok tt ≡ tick_said b → short b ≡ false
roomy b h = (by-room (short b) (Ok tt) tt h).0

-- a tick leaves the queue with what was due
pub ticked-on : (q : Queue) {q' : Queue} (r : ℕ) (b : List ℕ) → short b ≡ false → q' ≡ step q (Tick r) → playing q' ≡ tick_left (playing q) r b
ticked-on q r b room e = ap playing e ∙ sym (cond-false (short b) (playing q) (playing (step q (Tick r))) room)

abbrev taken : Entry → Taken
taken e = record { port = record { 0 = e.port }; len = length e.frame }

-- a next takes the first record, and copies its frame to the front
pub took : (waiting coming : List Entry) {q' : Queue} (e : Entry) (b : List ℕ) → short b ≡ false → Some e ≡ first waiting → q' ≡ step (record { waiting = waiting; coming = coming }) Next → Nexted (playing (record { waiting = waiting; coming = coming })) (playing q') b (e.frame ++ drop (length e.frame) b) (taken e)
took [] coming e b room f n = absurd (cc)
took (x ∷ xs) coming e b room f n =
    let same : e ≡ x = cc in
    record {
      answer = rw room (ap (λ (y : Entry). Ok (taken y)) same);
      frame = rw room (ap (λ (y : Entry). y.frame ++ drop (length y.frame) b) same);
      left = rw room (ap playing n);
    }

-- what waits, a feed can carry
pub first_carries : (es : List Entry) (e : Entry) → AllByRecursion Carries es → Some e ≡ first es → Carries e
first_carries [] e a h = absurd (cc)
first_carries (x ∷ xs) e a h = let same : x ≡ e = cc in subst Carries same a.0
