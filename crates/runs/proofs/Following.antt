-- The engine's slots follow those of the machine.
use Rattle.std.proofs.Common.{◌≡◌, ℕ, zero, suc, ◌+◌, ◌-◌, max, Bool, true, false, cond, not, ◌&&◌, eqb, ltb, leb, List, length, is_some, Some, None, Ok, Err, Option, Result, sym, refl, ap, ◌∙◌, subst, inl, inr}
use mathlib.Core.Path.{fun_ext}
use Rattle.std.specs.Option.{option_map}
use Rattle.std.proofs.lemmas.Bool.Decides.{eqb_tells}
use Rattle.common.specs.declared.fault.Fault as the_fault
use Rattle.common.specs.declared.fault.Fault.TheVariants as fault
use Rattle.common.specs.Faults.{number}
use Rattle.feed.specs.Feeds.{Behaviour}
use Rattle.cells.specs.Cells.{all_of}
use Rattle.sample.specs.Samples.{SampleOf}
use Rattle.combined.specs.Blocks.{port_at}
use Rattle.engine.specs.Boxes as E
use Rattle.engine.specs.Closing as C
use Rattle.engine.specs.Calls as K
use Rattle.laws.specs.Setting.{Setting, Contents, Slot}
use Rattle.laws.specs.Journal as J
use Rattle.laws.specs.Machine as M
use Rattle.runs.specs.Models.{sort_of, block_by, block_of, blocks_of, box_of}
use Rattle.runs.specs.Settings.{Opened, setting}

pub some_mapped : {A B : Type 0} (f : A → B) (x : Option A) → is_some (option_map f x) ≡ is_some x
some_mapped f None = refl
some_mapped f (Some a) = refl

all_same : (e : E.Setting) (x : Contents) (k : ℕ) → all_of (λ p. is_some (blocks_of e x p)) k ≡ M.all_held x k
unfolding all_of
all_same e x zero = refl
all_same e x (suc k) = rw (some_mapped (block_of e k) (x k), all_same e x k)

highest-same : (t : ℕ → Bool) (k : ℕ) → C.highest t k ≡ M.highest t k
unfolding C.highest M.highest
highest-same t zero = refl
highest-same t (suc k) = rw (highest-same t k)

beyond-same : (t : ℕ → Bool) (k f : ℕ) → C.beyond t k f ≡ M.beyond t k f
unfolding C.beyond M.beyond
beyond-same t zero f = refl
beyond-same t (suc k) f = rw (beyond-same t k (suc f))

number-cond : (b : Bool) (f : the_fault.Fault) (r : Result Unit the_fault.Fault) → K.verdict_number_of (cond b (Err f) r) ≡ cond b (number f) (K.verdict_number_of r)
number-cond true f r = refl
number-cond false f r = refl

passing-number : (x : SampleOf) (r : Result Unit the_fault.Fault) → K.verdict_number_of (K.verdict_of (K.passing x r)) ≡ K.verdict_number_of r
passing-number x (Ok u) = refl
passing-number x (Err f) = refl

number-some : (f : the_fault.Fault) → eqb (number f) 0 ≡ false
number-some fault.Short = refl
number-some fault.Sync = refl
number-some fault.FrameSize = refl
number-some fault.CheckWord = refl
number-some fault.FrameType = refl
number-some fault.IdCode = refl
number-some fault.Count = refl
number-some fault.NoSlot = refl
number-some fault.Length = refl
number-some (fault.StationLength s) = refl
number-some fault.TooEarly = refl
number-some (fault.StationLimit s) = refl
number-some fault.Rate = refl
number-some fault.Unsound = refl
number-some fault.Reading = refl
number-some fault.Port = refl
number-some fault.Buffer = refl
number-some fault.Closed = refl
number-some fault.Repeated = refl
number-some fault.TooFarAhead = refl
number-some fault.NoneClosed = refl
number-some fault.TicketOut = refl
number-some fault.EmptyPlan = refl
number-some fault.WaitTooLong = refl
number-some fault.PlanFull = refl
number-some fault.Exhausted = refl
number-some fault.WrongTicket = refl
number-some fault.NothingWaits = refl

module _ (e : E.Setting) (closing : E.Closing) (bound reading : ℕ) (o : Opened e closing bound reading) where
  abbrev pub g : Setting
  g = setting e closing bound reading o

  complete-same : (s : M.State) → C.complete e (box_of e s) ≡ M.complete g s
  complete-same s = fun_ext (λ n. ap (λ t. E.within_window (e.first + s.written) n && t) (all_same e (s.held n) (length e.ports)))

  past-complete : (s : M.State) (f : ℕ) → C.past_complete_of e (box_of e s) f ≡ M.past_complete_of g s f
  past-complete s f = ap (λ t. C.beyond t (E.upto e (s.latest + 100000) - f) f) (complete-same s) ∙ beyond-same (M.complete g s) (E.upto e (s.latest + 100000) - f) f

  past-ripe : (s : M.State) → C.past_ripe_of closing e (box_of e s) ≡ M.past_ripe_of g s
  past-ripe s = ap (max s.front) (highest-same (M.ripe g s) (E.upto e s.latest))

  pub settled_same : (s : M.State) → C.settled closing e (box_of e s) ≡ box_of e (M.settled g s)
  settled_same s = ap (C.with_front (box_of e s)) (ap (C.past_complete_of e (box_of e s)) (past-ripe s) ∙ past-complete s (M.past_ripe_of g s))

  pub settled-by-same : (s : M.State) (n : ℕ) (first : Bool) → C.settled_by closing e (box_of e s) n first ≡ box_of e (M.settled_by g s n first)
  settled-by-same s n first = ap (C.with_front (box_of e s)) (past-complete s (M.ripened_by g s n first))

  -- ---- verdicts
  slot-number : (s : M.State) (q n : ℕ) → K.verdict_number_of (K.slot_judged e (box_of e s) q n) ≡ M.judge_in g s q (Slot n)
  slot-number s q n =
      number-cond (ltb (s.latest + 100000) (E.stamp e n)) fault.TooEarly _
      ∙ ap (cond (ltb (s.latest + 100000) (E.stamp e n)) 10)
      (number-cond (ltb n s.front) fault.Closed _
      ∙ ap (cond (ltb n s.front) 20)
      (number-cond (leb (e.first + s.written + 32) n) fault.TooFarAhead _
      ∙ ap (cond (leb (e.first + s.written + 32) n) 22)
      (number-cond (is_some (blocks_of e (s.held n) q)) fault.Repeated (Ok tt)
      ∙ ap (λ t. cond t 21 0) (some_mapped (block_of e q) (s.held n q)))))

  pub verdict-same : (s : M.State) (q : ℕ) (r : Result SampleOf the_fault.Fault) → K.verdict_number_of (K.verdict_of (K.judged_in e (box_of e s) q r)) ≡ M.judge_in g s q (sort_of r)
  verdict-same s q (Ok x) = passing-number x (K.slot_judged e (box_of e s) q x.slot) ∙ slot-number s q x.slot
  verdict-same s q (Err f) = refl

  -- ---- a frame that is kept
  kept_same : (s : M.State) (q : ℕ) (b : List ℕ) (x : SampleOf) → K.sound_at e q b ≡ Ok x → K.kept (box_of e s) q x ≡ box_of e (M.put s q b x.slot)
  kept_same s q b x z = ap (λ h. record { latest = s.latest; front = s.front; written = s.written; held = h; arrived = (M.put s q b x.slot).arrived; out = s.out; tally = s.tally; judged = s.judged }) (fun_ext (λ n. fun_ext (λ p. cell n p)))
    where
      cell : (n p : ℕ) → cond (eqb x.slot n && eqb q p) (Some (record { quality = x.quality; body = x.body })) (option_map (block_of e p) (s.held n p)) ≡ option_map (block_of e p) (cond (eqb x.slot n && eqb q p) (Some b) (s.held n p))
      cell n p = elim (eqb_tells q p) [
        | inl y ↦ elim (eqb x.slot n && eqb q p) as (λ t. cond t (Some (record { quality = x.quality; body = x.body })) (option_map (block_of e p) (s.held n p)) ≡ option_map (block_of e p) (cond t (Some b) (s.held n p))) [
          | true ↦ ap Some (ap (block_by (port_at e.ports p)) (sym (subst (λ (r : ℕ). K.sound_at e r b ≡ Ok x) y.1 z)))
          | false ↦ refl
        ]
        | inr y ↦ rw y.0 (elim (eqb x.slot n) as (λ t. cond (t && false) (Some (record { quality = x.quality; body = x.body })) (option_map (block_of e p) (s.held n p)) ≡ option_map (block_of e p) (cond (t && false) (Some b) (s.held n p))) [ true ↦ refl | false ↦ refl ])
      ]

  placed_same : (s : M.State) (q : ℕ) (b : List ℕ) (r : Result SampleOf the_fault.Fault) → K.sound_at e q b ≡ r → K.placed closing e (box_of e s) q (K.judged_in e (box_of e s) q r) ≡ box_of e (M.placed g s q b (M.judge_in g s q (sort_of r)) (sort_of r))
  placed_same s q b (Err f) z = refl
  placed_same s q b (Ok x) z = go (K.slot_judged e (box_of e s) q x.slot) (M.judge_in g s q (Slot x.slot)) (slot-number s q x.slot)
    where
      go : (r : Result Unit the_fault.Fault) (v : ℕ) → K.verdict_number_of r ≡ v → K.placed closing e (box_of e s) q (K.passing x r) ≡ box_of e (cond (eqb v 0) (M.settled_by g (M.put s q b x.slot) x.slot (not (is_some (s.arrived x.slot)))) s)
      go (Ok u) v w = rw (← w) (ap (λ t. C.settled_by closing e t x.slot (not (is_some (s.arrived x.slot)))) (kept_same s q b x z) ∙ settled-by-same (M.put s q b x.slot) x.slot (not (is_some (s.arrived x.slot))))
      go (Err f) v w = rw (← w, number-some f)

  pub taken-same : (s : M.State) (w : J.Source) (q : ℕ) (b : List ℕ) → K.received closing e (box_of e s) q b ≡ box_of e (M.tallied (M.placed g s q b (M.judge g s q b) (g.sound q b)) w (M.judge g s q b))
  taken-same s w q b = ap (λ t. K.counted t (K.verdict_number_of (K.verdict_of (K.judge e (box_of e s) q b)))) (placed_same s q b (K.sound_at e q b) refl)
      ∙ ap (K.counted (box_of e (M.placed g s q b (M.judge g s q b) (g.sound q b)))) (verdict-same s q (K.sound_at e q b))

  -- ---- opening, ticks and writes
  pub opened-same : (B : Behaviour) → K.opened closing e reading ≡ box_of e (M.opened g B)
  opened-same B = settled_same (record { feed = B; latest = reading; front = e.first; held = λ n p. None; arrived = λ n. None; written = 0; out = None; tally = λ v. 0; judged = 0 })

  timed-same : (s : M.State) (l : ℕ) → C.settled closing e (K.timed (box_of e s) l) ≡ box_of e (M.settled g (M.timed s l))
  timed-same s l = settled_same (M.timed s l)

  pub cleared-same : (s : M.State) (n : ℕ) → K.cleared (box_of e s) n ≡ box_of e (M.cleared s n)
  cleared-same s n = ap (λ h. record { latest = s.latest; front = s.front; written = suc s.written; held = h; arrived = (M.cleared s n).arrived; out = None; tally = s.tally; judged = s.judged }) (fun_ext (λ k. fun_ext (λ p. cell (eqb n k) k p)))
    where
      cell : (t : Bool) (k p : ℕ) → cond t None (option_map (block_of e p) (s.held k p)) ≡ option_map (block_of e p) (cond t None (s.held k p))
      cell true k p = refl
      cell false k p = refl

  pub frame_same : (s : M.State) (n : ℕ) → K.frame_of e (box_of e s) n ≡ g.frame n (s.held n)
  frame_same s n = refl
