-- What ticks and pulls leave of the slots: those that were closed stay closed, with the frames that they had.
use Rattle.std.specs.Prelude.{◌≡◌, ℕ, zero, suc, ◌+◌, ◌<◌, ◌≤◌, max, Bool, true, false, cond, not, ◌&&◌, List, [], ◌∷◌, length, is_some, Some, None, Ok, Err, Option, Result, ◌==◌, refl}
use Rattle.std.proofs.Common.{sym, ap, ◌∙◌, subst, arith}
use Rattle.std.proofs.Math.Path.{fun_ext}
use Rattle.std.proofs.lemmas.Bool.{eqb-true, ne_eqb}
use Rattle.common.specs.declared.fault.Fault.{Fault}
use Rattle.feed.specs.Feeds.{Waiting, Behaviour}
use Rattle.plan.specs.Ports.{PortOf}
use Rattle.sample.specs.Samples.{SampleOf}
use Rattle.combined.specs.Blocks.{Block, Blocks, width_of}
use Rattle.engine.specs.Boxes.{Setting, Closing, Box}
use Rattle.engine.specs.Closing.{ripe, beyond, past_ripe_of, past_complete_of, with_front, settled, ripened_by, settled_by}
use Rattle.engine.specs.Calls as on
use Rattle.engine.proofs.Judged.{accepts, takes}
use Rattle.concentrator.specs.Wholes.{Whole, moved}
use Rattle.concentrator.specs.Calls as call
use Rattle.stacked.specs.Stacks.{pulled, pulls, drained_by, ticked}
use Rattle.stacked.specs.Lengths.{Wide}

-- each frame that is held for a slot is as wide as its port's
pub record Fits (ps : List PortOf) (held : ℕ → Blocks) : Type 0 where
  pub slot : (n : ℕ) → Wide ps (held n)

-- ---- the slots by themselves
-- in t, against s, no slot more is written, the same ticket is out, no closed slot has changed, the front has not fallen, and what is held fits if it did
pub record After (g : Setting) (s t : Box) : Type 0 where
  pub written : t.written ≡ s.written
  pub out : t.out ≡ s.out
  pub front : s.front ≤ t.front
  pub closed : (n : ℕ) → n < s.front → t.held n ≡ s.held n
  pub fits : Fits g.ports s.held → Fits g.ports t.held

-- so it is of a box against itself
after_same : (g : Setting) (s : Box) → After g s s
after_same g s = record { written = refl; out = refl; front = omega arith; closed = λ n l. refl; fits = λ f. f }

-- and of a third against the first, if it is of the second against the first and of the third against the second
after_then : {g : Setting} {s t u : Box} → After g s t → After g t u → After g s u
after_then {g} {s} {t} {u} a b =
    let low : s.front ≤ t.front = a.front in
    let high : t.front ≤ u.front = b.front in
    record {
      written = b.written ∙ a.written;
      out = b.out ∙ a.out;
      front = omega arith;
      closed = λ n l. b.closed n (omega arith) ∙ a.closed n l;
      fits = λ f. b.fits (a.fits f);
    }

-- ---- the front moves up
-- the first number that does not pass is not below the one where the search began
beyond_up : (t : ℕ → Bool) (k f : ℕ) → f ≤ beyond t k f
unfolding beyond
beyond_up t zero f = omega arith
beyond_up t (suc k) f =
    let u = beyond_up t k (suc f) in
    elim (t f) as (λ b. f ≤ cond b (beyond t k (suc f)) f) [ true ↦ omega arith | false ↦ omega arith ]

-- the front after a frame is not below what it was
ripened_up : (a n : ℕ) (b : Bool) → a ≤ cond b (max a (n + 1)) a
ripened_up a n true = omega arith
ripened_up a n false = omega arith

module _ (closing : Closing) (g : Setting) where
  -- so it is once the front has moved up
  after_front : (s : Box) (f : ℕ) → s.front ≤ f → After g s (with_front s f)
  after_front s f h = record { written = refl; out = refl; front = h; closed = λ n l. refl; fits = λ k. k }

  -- once slots have closed after a tick
  after_settled : (s : Box) → After g s (settled closing g s)
  after_settled s =
      let f : ℕ = past_ripe_of closing g s in
      let r : s.front ≤ f = omega arith in
      let u : f ≤ past_complete_of g s f = beyond_up _ _ f in
      after_front s (past_complete_of g s f) (omega arith)

  -- once slots have closed after a frame
  after_settled_by : (s : Box) (n : ℕ) (first : Bool) → After g s (settled_by closing g s n first)
  after_settled_by s n first =
      let f : ℕ = ripened_by closing g s n first in
      let r : s.front ≤ f = ripened_up s.front n (first && ripe closing g s n) in
      let u : f ≤ past_complete_of g s f = beyond_up _ _ f in
      after_front s (past_complete_of g s f) (omega arith)

  -- once there is another latest reading
  after_timed : (s : Box) (l : ℕ) → After g s (on.timed s l)
  after_timed s l = record { written = refl; out = refl; front = omega arith; closed = λ n h. refl; fits = λ k. k }

  -- and once a frame is counted
  after_counted : (s : Box) (v : ℕ) → After g s (on.counted s v)
  after_counted s v = record { written = refl; out = refl; front = omega arith; closed = λ n h. refl; fits = λ k. k }

  -- ---- a frame is kept, in an open slot
  module _ (s : Box) (q : ℕ) (x : SampleOf) (a : on.Accepts g s q x) where
    -- a frame that is kept changes no closed slot
    still_closed : (n : ℕ) → n < s.front → (on.kept s q x).held n ≡ s.held n
    still_closed n l =
        let unclosed : s.front ≤ x.slot = (takes g s q x.slot a.slot).unclosed in
        fun_ext (λ p. rw (ne_eqb x.slot n (λ e. omega arith)))

    -- what is held once a frame is kept is as wide as its port's bodies
    by-tests : (n p : ℕ) (b : Block) (u v : Bool) → (v ≡ true → q ≡ p) → cond (u && v) (Some (record { quality = x.quality; body = x.body })) (s.held n p) ≡ Some b → (s.held n p ≡ Some b → length b.body ≡ width_of g.ports p) → length b.body ≡ width_of g.ports p
    by-tests n p b true true same e h =
        let is : ◌≡◌ {A = Block} (record { quality = x.quality; body = x.body }) b = cc in
        ap (λ (y : Block). length y.body) (sym is) ∙ (a.body ∙ ap (width_of g.ports) (same refl))
    by-tests n p b true false same e h = h e
    by-tests n p b false v same e h = h e

    -- so it is once a frame is kept
    after_kept : After g s (on.kept s q x)
    after_kept =
        record {
          written = refl;
          out = refl;
          front = omega arith;
          closed = still_closed;
          fits = λ f. record {
            slot = λ n. record {
              width = λ p b l e. by-tests n p b (x.slot == n) (q == p) (eqb-true q p) e (λ k. (f.slot n).width p b l k);
            };
          };
        }

  -- once a frame that is accepted is kept and slots have closed, or one is refused
  after_placed : (s : Box) (q : ℕ) (r : Result SampleOf Fault) → ((x : SampleOf) → r ≡ Ok x → on.Accepts g s q x) → After g s (on.placed closing g s q r)
  after_placed s q (Err e) h = after_same g s
  after_placed s q (Ok x) h =
      after_then (after_kept s q x (h x refl)) (after_settled_by (on.kept s q x) x.slot (not (is_some (s.arrived x.slot))))

  -- once a frame is taken, whatever becomes of it
  after_taken : (s : Box) (q : ℕ) (bytes : List ℕ) → After g s (on.received closing g s q bytes)
  after_taken s q bytes =
      let r = on.judge g s q bytes in
      after_then (after_placed s q r (λ x e. accepts g s q bytes x e))
      (after_counted (on.placed closing g s q r) (on.verdict_number_of (on.verdict_of r)))

-- ---- the concentrator as a whole
-- the same of a concentrator v against w, which is open or shut as before, and has the setting that it had
pub record Later (w v : Whole) : Type 0 where
  pub shut : v.shut ≡ w.shut
  pub setting : v.setting ≡ w.setting
  pub slots : After w.setting w.box v.box

-- so it is of a concentrator against itself
later_same : (w : Whole) → Later w w
later_same w = record { shut = refl; setting = refl; slots = after_same w.setting w.box }

-- and of a third against the first by way of a second
later_then : {u v w : Whole} → Later u v → Later v w → Later u w
later_then {u} {v} {w} a b =
    record {
      shut = b.shut ∙ a.shut;
      setting = b.setting ∙ a.setting;
      slots = after_then a.slots (subst (λ (g : Setting). After g v.box w.box) a.setting b.slots);
    }

-- with other slots and another feed, if it is so of the slots
later-moved : (w : Whole) (b : Box) (f : Behaviour) → After w.setting w.box b → Later w (moved w b f)
later-moved w b f a = record { shut = refl; setting = refl; slots = a }

-- where it is open, or else nothing has changed
later_if_open : (o : Option Fault) (w v : Whole) → Later w v → Later w (on.if_open o w v)
later_if_open (Some f) w v l = later_same w
later_if_open None w v l = l

-- unless a test holds, and nothing has changed
later_unless : (b : Bool) (w v : Whole) → Later w v → Later w (cond b w v)
later_unless true w v l = later_same w
later_unless false w v l = l

-- once the first frame that waits is taken, if any waits
later_took : (w : Whole) (fs : List Waiting) → Later w (call.took_first w fs)
later_took w [] = later_same w
later_took w (f ∷ fs) = later-moved w _ _ (after_taken w.closing w.setting w.box f.port f.bytes)

-- once a pull is made
later_pulled : (w : Whole) → Later w (pulled w)
later_pulled w =
    later_if_open w.shut w _ (later_unless (on.exhausted w.box) w _ (later_took w (w.feed [])))

-- once any number of pulls are made
later_pulls : (n : ℕ) (w : Whole) → Later w (pulls n w)
later_pulls zero w = later_same w
later_pulls (suc n) w = later_then (later_pulled w) (later_pulls n (pulled w))

-- once a tick is made and drained, or refused
later_by : (w : Whole) (r : Result ℕ Fault) → Later w (drained_by w r)
later_by w (Err e) = later_same w
later_by w (Ok l) =
    let v = call.ticked_by w (Ok l) in
    later_then
    (later-moved w _ _ (after_then (after_timed w.closing w.setting w.box l) (after_settled w.closing w.setting (on.timed w.box l))))
    (later_pulls (length (v.feed [])) v)

-- a tick and the pulls that follow it write no slot, change no closed one, and never move the front back
pub later_ticked : (w : Whole) (reading : ℕ) → Later w (ticked w reading)
later_ticked w reading = later_if_open w.shut w _ (later_by w (on.tick_said w.box reading))
