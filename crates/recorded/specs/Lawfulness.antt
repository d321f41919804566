-- The queue of a capture's records is a lawful feed.
use Rattle.std.specs.Prelude.{◌≡◌, ℕ, zero, suc, ◌+◌, ◌≤◌, List, [], ◌∷◌, map, length, take, drop, refl}
use Rattle.std.proofs.Common.{ap, arith, length-drop}
use Rattle.std.specs.List.{AllByRecursion}
use Rattle.std.proofs.lemmas.List.{length-take-le, map-append}
use Rattle.std.proofs.ByRecursion.{All-append, All-take, All-drop}
use Rattle.std.proofs.lemmas.Bool.{cond_both}
use Rattle.capture.specs.Records.{Entry, entry_at, behind, sound_at, leading}
use Rattle.capture.proofs.Walk.{Sized, sized}
use Rattle.feed.specs.Feeds.{Op, Tick, Next, rest, Within, Carried, AllCarried, Lawful}
use Rattle.feed.specs.Lists.{within-before}
use Rattle.feed.specs.Machines.{Steps, machine_lawful}
use Rattle.recorded.specs.Queues.{Queue, due, step, waiting_of, waits, playing}

-- a record whose frame a feed can carry
abbrev pub Carries : Entry → Type 0
Carries e = Carried (waiting_of e)

-- every record of the queue is such a one
abbrev pub Held : Queue → Type 0
Held q = AllByRecursion Carries q.waiting × AllByRecursion Carries q.coming

-- ---- the records of a capture are
-- a frame of 1 to 1,040 bytes that is cut out of bytes which hold it has this length
cut-length : {n : ℕ} (bs : List ℕ) → 1 ≤ n → n ≤ 1040 → 11 + n ≤ length bs → (1 ≤ length (take n (drop 11 bs))) × (length (take n (drop 11 bs)) ≤ 1040)
cut-length {n} bs some few whole =
    let d = length-drop 11 bs in
    let l = length-take-le n (drop 11 bs) (omega (arith, d)) in (omega (arith, l), omega (arith, l))

-- a feed can carry the frame of a whole record within its limits
first_carries : (bs : List ℕ) → Sized 0 bs → Carries (entry_at bs)
first_carries bs s =
    let l = cut-length bs s.some s.few s.whole in record { line = s.line; some = l.0; few = l.1 }

-- a feed can carry the frame of each record that leads the bytes
pub leading_carries : (n : ℕ) (bs : List ℕ) → AllByRecursion Carries (leading n bs)
unfolding leading
leading_carries zero bs = tt
leading_carries (suc n) bs =
    cond_both (sound_at 0 bs) (entry_at bs ∷ leading n (behind bs)) [] (λ (es : List Entry). AllByRecursion Carries es)
    (λ h. (first_carries bs (sized 0 bs h), leading_carries n (behind bs))) (λ h. tt)

-- ---- the steps
-- a step leaves a queue of records that can be carried
stays : (q : Queue) (o : Op) → Held q → Held (step q o)
stays q (Tick r) h =
    let n = due r q.coming in
    (All-append Carries q.waiting (take n q.coming) h.0 (All-take Carries n q.coming h.1), All-drop Carries n q.coming h.1)
stays q Next h = (All-drop Carries 1 q.waiting h.0, h.1)

-- a tick keeps all that waited, in its order
ticked : (q : Queue) (r : ℕ) → Held q → Within (waits q) (waits (step q (Tick r)))
ticked q r h =
    let more = take (due r q.coming) q.coming in
    rw (map-append waiting_of q.waiting more) (within-before (map waiting_of q.waiting) (map waiting_of more))

-- what waits without the first record is what waited without the first frame
rest-waits : (es : List Entry) → map waiting_of (drop 1 es) ≡ rest (map waiting_of es)
rest-waits [] = refl
rest-waits (e ∷ es) = refl

-- where nothing waits there is no record to take away
none_gone : (es : List Entry) → map waiting_of es ≡ [] → drop 1 es ≡ es
none_gone [] h = refl
none_gone (e ∷ es) h = cc

-- the frames of records that can be carried can be carried
all-carried : (es : List Entry) → AllByRecursion Carries es → AllCarried (map waiting_of es)
all-carried [] h = tt
all-carried (e ∷ es) h = (h.0, all-carried es h.1)

-- the steps of a queue are those of a lawful feed
queue_steps : Steps step waits Held
queue_steps =
    record {
      stays = stays;
      ticked = ticked;
      nexted = λ q h. rest-waits q.waiting;
      idle = λ q h e. ap (λ (es : List Entry). record { waiting = es; coming = q.coming }) (none_gone q.waiting e);
      carried = λ q h. all-carried q.waiting h.0;
    }

-- a queue of such records means a lawful feed
pub queue-lawful : (q : Queue) → Held q → Lawful (playing q)
queue-lawful q h = machine_lawful step waits Held queue_steps q h
