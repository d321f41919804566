-- Writes come in order, with the frames accepted so far, and nothing later changes a closed slot.
use Rattle.std.proofs.Common.{◌≡◌, ℕ, ◌+◌, ◌<◌, ◌≤◌, max, Bool, true, false, cond, not, ◌&&◌, eqb, List, is_some, Some, None, Option, sym, refl, ap, ◌∙◌, subst, inl, inr, arith}
use mathlib.Core.Path.{fun_ext}
use Rattle.std.proofs.lemmas.Bool.{cases_eq, cases_lt, both_ways, ne_eqb}
use Rattle.laws.specs.Setting.{Setting, Sort, Fault, Slot}
use Rattle.feed.specs.Feeds.{Behaviour}
use Rattle.laws.specs.Journal.{Past, start, ◌▹◌, ◌≼◌, all, more, Call, Ticking, Admitting, Pulling, Taking, Writing, Counting, Event, Ticked, Took, Lent, Wrote, Told, Refused, Journal, or_else, latest, frame_of, having, accepted, frame_at, arrival, Ripe, Complete, Closed, by_time, by_frames, still}
use Rattle.laws.specs.Machine.{State, full, ripe, past_ripe_of, settled, ripened_by, settled_by, ticket, event, put, placed, timed, without, next, state, journal}
use Rattle.laws.specs.Laws.{Orderly}
use Rattle.laws.proofs.Inv.{framed, is_ripe, is_full, past_up}
use Rattle.laws.proofs.Steps.{run}
use Rattle.laws.proofs.Why.{Judging, faulty, far, late, ahead, again, fresh, Answered, ticked, took, lent, wrote, told, refused, answered}

-- each beginning of a run's journal is the journal of a run
start_not : {A : Type 0} (J : Past A) (e : A) → J ▹ e ≡ start → ⊥
start_not J e p = let z : ◌≡◌ {A = ℕ} 0 1 = cc in omega arith

pub run_of : (g : Setting) (B : Behaviour) {K J : Journal} → K ≼ J → (cs : Past Call) → J ≡ journal g B cs → (bs : Past Call) × (K ≡ journal g B bs)
run_of g B all cs e = (cs, e)
run_of g B (more {K} {J} {e = x} h) start e = absurd (start_not J x e)
run_of g B (more {K} {J} {e = x} h) (cs ▹ c) e = run_of g B h cs (cc)

-- the last event of a run is what its last call answered
pub last_of : (g : Setting) (B : Behaviour) (K : Journal) (e : Event) (cs : Past Call) → K ▹ e ≡ journal g B cs → (bs : Past Call) × (c : Call) × (K ≡ journal g B bs) × (e ≡ event g (state g B bs) c)
last_of g B K e start p = absurd (start_not K e p)
last_of g B K e (cs ▹ c) p = (cs, c, cc, cc)

-- the front does not fall
settled_up : (g : Setting) (s : State) → s.front ≤ (settled g s).front
settled_up g s = let u = past_up g s (past_ripe_of g s) in omega arith

ripened_up : (g : Setting) (s : State) (n : ℕ) (t : Bool) → s.front ≤ cond t (max s.front (n + 1)) s.front
ripened_up g s n true = omega arith
ripened_up g s n false = omega arith

settled_by_up : (g : Setting) (s : State) (n : ℕ) (first : Bool) → s.front ≤ (settled_by g s n first).front
settled_by_up g s n first =
    let u = past_up g s (ripened_by g s n first) in
    let w = ripened_up g s n (first && ripe g s n) in
    omega arith

front-placed : (g : Setting) (s : State) (q : ℕ) (b : List ℕ) (v : ℕ) (o : Sort) → s.front ≤ (placed g s q b v o).front
front-placed g s q b v (Fault k) = omega arith
front-placed g s q b v (Slot n) = elim (eqb v 0) as (λ t. s.front ≤ (cond t (settled_by g (put s q b n) n (not (is_some (s.arrived n)))) s).front) [ true ↦ settled_by_up g (put s q b n) n (not (is_some (s.arrived n))) | false ↦ omega arith ]

front-without : (s : State) (c : Call) (k : ℕ) → (without s c k).front ≡ s.front
front-without s (Ticking r len) k = refl
front-without s (Admitting q b) k = refl
front-without s (Pulling len) k = refl
front-without s Taking k = refl
front-without s Counting k = refl
front-without s (Writing n len) k = elim (eqb k 17) as (λ t. (cond t (ticket s None) s).front ≡ s.front) [ true ↦ refl | false ↦ refl ]

pub front_up : (g : Setting) (s : State) (e : Event) → s.front ≤ (next g s e).front
front_up g s (Ticked r len) = settled_up g (timed s (max r s.latest))
front_up g s (Took w q b v) = front-placed g s q b v (g.sound q b)
front_up g s (Lent k) = omega arith
front_up g s (Wrote len n x) = omega arith
front_up g s (Told a m t) = omega arith
front_up g s (Refused c k) = omega (arith, front-without s c k)

-- a closed slot is below the front
pub closed-below : (g : Setting) (B : Behaviour) {J : Journal} {n : ℕ} → Closed g J n → (cs : Past Call) → J ≡ journal g B cs → n < (state g B cs).front
closed-below g B {J} {n} (by_time m a b r) cs e =
    let i = run g B cs in
    elim (cases_lt n (state g B cs).front) [
      | inl l ↦ l
      | inr l ↦ absurd (both_ways (ripe g (state g B cs) m) (i.unripe m (omega arith)) (is_ripe g (state g B cs) (journal g B cs) i.base m (omega (arith, i.base.low)) (subst (λ (K : Journal). Ripe g K m) e r)))
    ]
closed-below g B {J} {n} (by_frames a f k) cs e =
    let i = run g B cs in
    elim (cases_lt n (state g B cs).front) [
      | inl l ↦ l
      | inr l ↦ elim (cases_eq (state g B cs).front n) [
        | inl q ↦ absurd (both_ways (full g (state g B cs) n) (subst (λ (x : ℕ). full g (state g B cs) x ≡ false) q i.incomplete) (is_full g (state g B cs) (journal g B cs) i.base n (omega (arith, i.base.low)) (subst (λ (K : Journal). Complete g K n) e f)))
        | inr q ↦
            let h = closed-below g B (k (state g B cs).front (omega (arith, i.base.low)) (omega arith)) cs e in
            let no : ⊥ = omega arith in absurd no
      ]
    ]
closed-below g B (still {J} {e = x} {n} h) start e = absurd (start_not J x e)
closed-below g B (still {J} {e = x} {n} h) (cs ▹ c) e =
    let u = front_up g (state g B cs) (event g (state g B cs) c) in
    let l = closed-below g B h cs (cc) in
    omega arith

-- what happens to a slot below the front changes nothing in it
below : (g : Setting) (s : State) (n p : ℕ) (x : Option (List ℕ)) → n < s.front → {e : Event} → Answered g s e → having g p n x (frame_of e) ≡ x
below g s n p x low (ticked r len m a c) = refl
below g s n p x low (took w q b {o} {v} l c e j) = took-below o v e j
  where
    took-below : (o : Sort) (v : ℕ) → g.sound q b ≡ o → Judging g s q o v → having g p n x (frame_of (Took w q b v)) ≡ x
    took-below o v e (faulty z) = rw (ne_eqb v 0 (λ y. omega arith))
    took-below o v e (far a) = refl
    took-below o v e (late a c) = refl
    took-below o v e (ahead a c d) = refl
    took-below o v e (again a c d f) = refl
    took-below o v e (fresh {n = m} near up window empty) =
        rw (e, ne_eqb m n (λ y. omega arith)) (elim (eqb q p) as (λ t. cond (t && false) (or_else x (Some b)) x ≡ x) [ true ↦ refl | false ↦ refl ])
below g s n p x low (lent e f) = refl
below g s n p x low (wrote len k o l) = refl
below g s n p x low told = refl
below g s n p x low (refused r) = refl

closed-later : (g : Setting) {K J : Journal} {n : ℕ} → Closed g K n → K ≼ J → Closed g J n
closed-later g h all = h
closed-later g h (more l) = still (closed-later g h l)

-- once a slot is closed, nothing changes the frames in it
pub kept : (g : Setting) (B : Behaviour) {K J : Journal} (n p : ℕ) → K ≼ J → Closed g K n → (cs : Past Call) → J ≡ journal g B cs → accepted g J p n ≡ accepted g K p n
kept g B n p all h cs e = refl
kept g B n p (more {K} {J} {e = x} l) h start e = absurd (start_not J x e)
kept g B n p (more {K} {J} {e = x} l) h (cs ▹ c) e =
    let d : J ≡ journal g B cs = cc in
    let xe : x ≡ event g (state g B cs) c = cc in
    let f = closed-below g B (closed-later g h l) cs d in
    subst (λ (y : Event). having g p n (accepted g J p n) (frame_of y) ≡ accepted g J p n) (sym xe) (below g (state g B cs) n p (accepted g J p n) f (answered g (state g B cs) c)) ∙ kept g B n p l h cs d

pub frame-kept : (g : Setting) (B : Behaviour) {K J : Journal} (n : ℕ) → K ≼ J → Closed g K n → (cs : Past Call) → J ≡ journal g B cs → frame_at g J n ≡ frame_at g K n
frame-kept g B n l h cs e = ap (g.frame n) (fun_ext (λ p. kept g B n p l h cs e))

-- what a write that succeeded says
pub says : (g : Setting) (s : State) (len n : ℕ) (x : List ℕ) → Answered g s (Wrote len n x) → (s.out ≡ Some n) × (x ≡ g.frame n (s.held n))
says g s len n x (wrote m k o l) = (o, refl)

-- each event of a run came for a reason, in a state that says the same as the journal before it
pub record Reason (g : Setting) (B : Behaviour) (K : Journal) (e : Event) : Type 0 where
  pub before : Past Call
  pub same : K ≡ journal g B before
  pub answer : Answered g (state g B before) e

pub reason : (g : Setting) (B : Behaviour) (cs : Past Call) (K : Journal) (e : Event) → K ▹ e ≼ journal g B cs → Reason g B K e
reason g B cs K e h =
    let r = run_of g B h cs refl in
    let l = last_of g B K e r.0 r.1 in
    record { before = l.0; same = l.2; answer = subst (λ (x : Event). Answered g (state g B l.0) x) (sym l.3) (answered g (state g B l.0) l.1) }

pub orderly : (g : Setting) (B : Behaviour) (cs : Past Call) (K : Journal) (len n : ℕ) (x : List ℕ) → K ▹ Wrote len n x ≼ journal g B cs → Orderly g K n x
orderly g B cs K len n x h =
    let r = reason g B cs K (Wrote len n x) h in
    let i = run g B r.before in
    let w = says g (state g B r.before) len n x r.answer in
    let o = i.base.out n w.0 in
    record {
      number = rw r.same (o.0 ∙ ap (λ z. g.first + z) i.base.written);
      closed = rw r.same (i.base.closes n (omega (arith, o.0)) o.1);
      bytes = w.1 ∙ framed g (state g B r.before) (journal g B r.before) i.base n (omega (arith, o.0)) ∙ ap (λ z. frame_at g z n) (sym r.same);
    }

pub bounded : (g : Setting) (J : Journal) (n : ℕ) → g.first ≤ n → g.stamp n + g.bound ≤ latest g J → Closed g J n
bounded g J n a b = let w = g.within (g.stamp n) (arrival g J n) in by_time n a (omega arith) (omega arith)
