-- Each call of the concentrator answers and leaves what the machine does.
use Rattle.std.proofs.Common.{◌≡◌, ℕ, ◌+◌, max, Bool, true, false, cond, not, eqb, ltb, leb, List, [], ◌∷◌, length, drop, is_some, Some, None, Ok, Err, Option, Result, sym, refl, ap, ◌∙◌, arith}
use lib.Seq.{take-append_seam}
use Rattle.std.proofs.lemmas.Bool.{ne_eqb}
use Rattle.common.specs.declared.fault.Fault as the_fault
use Rattle.common.specs.declared.fault.Fault.TheVariants as fault
use Rattle.common.specs.Faults.{number}
use Rattle.combined.specs.Frames.{slot_length}
use Rattle.feed.specs.Feeds.{Waiting, Tick, after}
use Rattle.feed.specs.Calls.{first_over}
use Rattle.engine.specs.Boxes as E
use Rattle.engine.specs.Calls as K
use Rattle.concentrator.specs.Wholes as W
use Rattle.concentrator.specs.Calls as Q
use Rattle.laws.specs.Setting.{Setting, Sort, Fault, Slot}
use Rattle.laws.specs.Journal as J
use Rattle.laws.specs.Machine as M
use Rattle.laws.proofs.Why as Why
use Rattle.runs.specs.Models.{box_of}
use Rattle.runs.specs.Entries.{front_by, frame_by}
use Rattle.runs.specs.Events.{whole_of, tick_event, admit_event, pull_event, take_event, write_event}
use Rattle.runs.specs.Settings.{Opened, setting}
use Rattle.runs.proofs.Following.{settled_same, taken-same, verdict-same, cleared-same}

is_out_same : (o : Option ℕ) (k : ℕ) → K.is_out o k ≡ M.is_out o k
is_out_same (Some n) k = refl
is_out_same None k = refl

feed-placed : (g : Setting) (s : M.State) (q : ℕ) (b : List ℕ) (v : ℕ) (o : Sort) → (M.placed g s q b v o).feed ≡ s.feed
feed-placed g s q b v (Fault k) = refl
feed-placed g s q b v (Slot n) = elim (eqb v 0) as (λ t. (cond t (M.settled_by g (M.put s q b n) n (not (is_some (s.arrived n)))) s).feed ≡ s.feed) [ true ↦ refl | false ↦ refl ]

-- no verdict is 28
not_28 : (g : Setting) (s : M.State) (q : ℕ) (o : Sort) (v : ℕ) → Why.Judging g s q o v → eqb v 28 ≡ false
not_28 g s q o v (Why.faulty z) = ne_eqb v 28 (λ y. omega arith)
not_28 g s q o v (Why.far a) = refl
not_28 g s q o v (Why.late a b) = refl
not_28 g s q o v (Why.ahead a b c) = refl
not_28 g s q o v (Why.again a b c d) = refl
not_28 g s q o v (Why.fresh a b c d) = refl

module _ (e : E.Setting) (closing : E.Closing) (bound reading : ℕ) (o : Opened e closing bound reading) (s : M.State) where
  abbrev g : Setting
  g = setting e closing bound reading o

  abbrev w : W.Whole
  w = whole_of e closing s

  -- ---- tick
  pub tick-answer : (r : ℕ) (scratch : List ℕ) → tick_event r (length scratch) (Q.tick_said w r scratch) ≡ M.event g s (J.Ticking r (length scratch))
  tick-answer r scratch = go (ltb (length scratch) 1040) (M.too_large s r)
    where
      go : (a b : Bool) → tick_event r (length scratch) (cond a (Err fault.Buffer) (Q.done (cond b (Err fault.Reading) (Ok (max r s.latest))))) ≡ cond a (J.Refused (J.Ticking r (length scratch)) 17) (cond b (J.Refused (J.Ticking r (length scratch)) 14) (J.Ticked r (length scratch)))
      go true b = refl
      go false true = refl
      go false false = refl

  pub tick-next : (r : ℕ) (scratch : List ℕ) → Q.ticked w r scratch ≡ whole_of e closing (M.next g s (M.event g s (J.Ticking r (length scratch))))
  tick-next r scratch = go (ltb (length scratch) 1040) (M.too_large s r)
    where
      go : (a b : Bool) → cond a w (Q.ticked_by w (cond b (Err fault.Reading) (Ok (max r s.latest)))) ≡ whole_of e closing (M.next g s (cond a (J.Refused (J.Ticking r (length scratch)) 17) (cond b (J.Refused (J.Ticking r (length scratch)) 14) (J.Ticked r (length scratch)))))
      go true b = refl
      go false true = refl
      go false false = ap (λ t. W.moved w t (after s.feed (Tick (max r s.latest)))) (settled_same e closing bound reading o (M.timed s (max r s.latest)))

  -- ---- a frame
  judged-event : (q : ℕ) (b : List ℕ) → admit_event q b (K.verdict_of (K.judge e (box_of e s) q b)) ≡ J.Took J.Host q b (M.judge g s q b)
  judged-event q b = go (K.verdict_of (K.judge e (box_of e s) q b)) (M.judge g s q b) (verdict-same e closing bound reading o s q (K.sound_at e q b)) (not_28 g s q (g.sound q b) (M.judge g s q b) (Why.judging g s q (g.sound q b) (g.numbered q b)))
    where
      go : (r : Result Unit the_fault.Fault) (v : ℕ) → K.verdict_number_of r ≡ v → eqb v 28 ≡ false → admit_event q b r ≡ J.Took J.Host q b v
      go (Ok u) v x y = ap (J.Took J.Host q b) x
      go (Err f) v x y = let n : eqb (number f) 28 ≡ false = ap (λ t. eqb t 28) x ∙ y in rw n (ap (J.Took J.Host q b) x)

  pub admit_answer : (q : ℕ) (b : List ℕ) → admit_event q b (Q.admit_said w q b) ≡ M.event g s (J.Admitting q b)
  admit_answer q b = go (leb 1000000000000000 s.judged)
    where
      go : (a : Bool) → admit_event q b (cond a (Err fault.Exhausted) (K.verdict_of (K.judge e (box_of e s) q b))) ≡ cond a (J.Refused (J.Admitting q b) 28) (J.Took J.Host q b (M.judge g s q b))
      go true = refl
      go false = judged-event q b

  -- the box after a frame from a source, with the feed as that source leaves it
  took-next : (from : J.Source) (q : ℕ) (b : List ℕ) → W.moved w (K.received closing e (box_of e s) q b) (M.fed from s.feed) ≡ whole_of e closing (M.next g s (J.Took from q b (M.judge g s q b)))
  took-next from q b =
      ap (λ t. W.moved w t (M.fed from s.feed)) (taken-same e closing bound reading o s from q b)
      ∙ ap (λ f. W.moved w (box_of e (M.next g s (J.Took from q b (M.judge g s q b)))) (M.fed from f)) (sym (feed-placed g s q b (M.judge g s q b) (g.sound q b)))

  pub admit_next : (q : ℕ) (b : List ℕ) → Q.admitted w q b ≡ whole_of e closing (M.next g s (M.event g s (J.Admitting q b)))
  admit_next q b = go (leb 1000000000000000 s.judged)
    where
      go : (a : Bool) → W.moved w (cond a (box_of e s) (K.received closing e (box_of e s) q b)) s.feed ≡ whole_of e closing (M.next g s (cond a (J.Refused (J.Admitting q b) 28) (J.Took J.Host q b (M.judge g s q b))))
      go true = refl
      go false = took-next J.Host q b

  -- ---- pull
  pub pull_answer : (buffer : List ℕ) → pull_event (length buffer) (front_by (Q.pull_buffer w buffer) (Q.pull_said w buffer)) ≡ M.event g s (J.Pulling (length buffer))
  pull_answer buffer = go (ltb (length buffer) 1040) (leb 1000000000000000 s.judged) (s.feed [])
    where
      go : (a c : Bool) (fs : List Waiting) → pull_event (length buffer) (front_by (cond a buffer (cond c buffer (first_over fs buffer))) (cond a (Err fault.Buffer) (cond c (Err fault.Exhausted) (Q.pulled_by w fs)))) ≡ cond a (J.Refused (J.Pulling (length buffer)) 17) (cond c (J.Refused (J.Pulling (length buffer)) 28) (M.pulls g s (length buffer) fs))
      go true c fs = refl
      go false true fs = refl
      go false false [] = refl
      go false false (f ∷ fs) =
          ap (λ t. J.Took (J.Feed (length buffer)) f.port t (K.verdict_number_of (K.verdict_of (K.judge e (box_of e s) f.port f.bytes)))) (take-append_seam f.bytes (drop (length f.bytes) buffer))
          ∙ ap (J.Took (J.Feed (length buffer)) f.port f.bytes) (verdict-same e closing bound reading o s f.port (K.sound_at e f.port f.bytes))

  pub pull_next : (buffer : List ℕ) → Q.pulled w buffer ≡ whole_of e closing (M.next g s (M.event g s (J.Pulling (length buffer))))
  pull_next buffer = go (ltb (length buffer) 1040) (leb 1000000000000000 s.judged) (s.feed [])
    where
      go : (a c : Bool) (fs : List Waiting) → cond a w (cond c w (Q.took_first w fs)) ≡ whole_of e closing (M.next g s (cond a (J.Refused (J.Pulling (length buffer)) 17) (cond c (J.Refused (J.Pulling (length buffer)) 28) (M.pulls g s (length buffer) fs))))
      go true c fs = refl
      go false true fs = refl
      go false false [] = refl
      go false false (f ∷ fs) = took-next (J.Feed (length buffer)) f.port f.bytes

  -- ---- take
  pub take-answer : take_event (Q.take_said w) ≡ M.event g s J.Taking
  take-answer = go s.out
    where
      go : (u : Option ℕ) → take_event (K.take_by e (box_of e s) u) ≡ M.lends g s u
      go (Some k) = refl
      go None = elim (ltb (e.first + s.written) s.front) as (λ t. take_event (cond t (Ok (e.first + s.written)) (Err fault.NoneClosed)) ≡ cond t (J.Lent (e.first + s.written)) (J.Refused J.Taking 23)) [ true ↦ refl | false ↦ refl ]

  pub take_next : Q.lent w ≡ whole_of e closing (M.next g s (M.event g s J.Taking))
  take_next = go s.out
    where
      go : (u : Option ℕ) → W.moved w (K.lent_by (box_of e s) (K.take_by e (box_of e s) u)) s.feed ≡ whole_of e closing (M.next g s (M.lends g s u))
      go (Some k) = refl
      go None = elim (ltb (e.first + s.written) s.front) as (λ t. W.moved w (K.lent_by (box_of e s) (cond t (Ok (e.first + s.written)) (Err fault.NoneClosed))) s.feed ≡ whole_of e closing (M.next g s (cond t (J.Lent (e.first + s.written)) (J.Refused J.Taking 23)))) [ true ↦ refl | false ↦ refl ]

  -- ---- write
  pub write-answer : (n room : ℕ) → write_event n room (frame_by (Q.frame_of w n) (Q.write_said w n room)) ≡ M.event g s (J.Writing n room)
  write-answer n room = rw (is_out_same s.out n) (go (M.is_out s.out n) (ltb room (slot_length e.ports)))
    where
      go : (a c : Bool) → write_event n room (frame_by (Q.frame_of w n) (cond a (cond c (Err fault.Buffer) (Ok (slot_length e.ports))) (Err fault.WrongTicket))) ≡ cond a (cond c (J.Refused (J.Writing n room) 17) (J.Wrote room n (g.frame n (s.held n)))) (J.Refused (J.Writing n room) 29)
      go true true = refl
      go true false = refl
      go false c = refl

  pub write-next : (n room : ℕ) → Q.wrote w n room ≡ whole_of e closing (M.next g s (M.event g s (J.Writing n room)))
  write-next n room = rw (is_out_same s.out n) (go (M.is_out s.out n) (ltb room (slot_length e.ports)))
    where
      go : (a c : Bool) → W.moved w (cond a (cond c (K.with_ticket (box_of e s) None) (K.cleared (box_of e s) n)) (box_of e s)) s.feed ≡ whole_of e closing (M.next g s (cond a (cond c (J.Refused (J.Writing n room) 17) (J.Wrote room n (g.frame n (s.held n)))) (J.Refused (J.Writing n room) 29)))
      go true true = refl
      go true false = ap (λ t. W.moved w t s.feed) (cleared-same e closing bound reading o s n)
      go false c = refl
