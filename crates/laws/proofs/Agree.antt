-- What a port has in a slot depends on the ticks and on that port's frames alone.
use Rattle.std.proofs.Common.{◌≡◌, ℕ, ◌+◌, ◌<◌, ◌≤◌, max, Bool, true, false, cond, ◌&&◌, eqb, leb, ◌⊎◌, List, [], ◌∷◌, is_some, Some, None, Option, sym, refl, ◌∙◌, subst, inl, inr, arith}
use Rattle.std.proofs.lemmas.Bool.{cases_lt, both_ways, ne_eqb, eq-eqb, leb-true, le-leb, lt-leb}
use Rattle.std.proofs.lemmas.Bool.Decides.{eqb_tells}
use Rattle.laws.specs.Setting.{Setting, Sort}
use Rattle.feed.specs.Feeds.{Behaviour}
use Rattle.laws.specs.Journal.{Past, start, ◌▹◌, ◌≼◌, all, more, Call, Event, Journal, or_else, one, Taken, frame_of, tick_of, latest, later, fits, having, accepted, frame_at, arrival, Ripe, Complete, Closed, by_time, by_frames, still, tally, counting, Sight, Time, Own, see_tick, see_frame, seen}
use Rattle.laws.specs.Machine.{State, ripe, highest, event, state, journal}
use Rattle.laws.specs.Laws.{IgnoresArrivals, Gave}
use Rattle.laws.proofs.Fronts.{highest-above, highest_why}
use Rattle.laws.proofs.Inv.{Inv, is_ripe}
use Rattle.laws.proofs.Steps.{run}
use Rattle.laws.proofs.Why.{Judging, faulty, far, late, ahead, again, fresh, Answered, ticked, took, lent, wrote, told, refused, answered}
use Rattle.laws.proofs.Order.{orderly, frame-kept}

-- ripe at a reading, whatever arrived
abbrev pub ripe_at : Setting → ℕ → ℕ → Bool
ripe_at g l n = leb (g.closing (g.stamp n) None) l

-- no slot below this is open at a reading
abbrev pub floor : Setting → ℕ → ℕ
floor g l = max g.first (highest (ripe_at g l) (g.upto l))

-- the last reading that a port has seen
abbrev pub reading : Setting → List Sight → ℕ
reading g [] = g.opening
reading g (Time l ∷ v) = l
reading g (Own b ∷ v) = reading g v

-- a frame of q is in time for slot n at a reading
abbrev pub timely : Setting → ℕ → List ℕ → ℕ → ℕ → Bool
timely g q b n l = fits g q b n && (leb (floor g l) n && leb (g.stamp n) (l + 100000))

-- the first frame of q in time for slot n
abbrev pub in_time : Setting → ℕ → ℕ → List Sight → Option (List ℕ)
in_time g q n [] = None
in_time g q n (Time l ∷ v) = in_time g q n v
in_time g q n (Own b ∷ v) = cond (timely g q b n (reading g v)) (or_else (in_time g q n v) (Some b)) (in_time g q n v)

reading-own : (g : Setting) (q : ℕ) (v : List Sight) (o : Option Taken) → reading g (see_frame q v o) ≡ reading g v
reading-own g q v None = refl
reading-own g q v (Some f) = elim (eqb f.port q) as (λ t. reading g (cond t (Own f.bytes ∷ v) v) ≡ reading g v) [ true ↦ refl | false ↦ refl ]

reading-tick : (g : Setting) (l : ℕ) (v : List Sight) (o : Option ℕ) → reading g v ≡ l → reading g (see_tick l v o) ≡ later l o
reading-tick g l v None e = e
reading-tick g l v (Some r) e = refl

reading_is : (g : Setting) (q : ℕ) (J : Journal) → reading g (seen g q J) ≡ latest g J
reading_is g q start = refl
reading_is g q (J ▹ e) = reading-own g q (see_tick (latest g J) (seen g q J) (tick_of e)) (frame_of e) ∙ reading-tick g (latest g J) (seen g q J) (tick_of e) (reading_is g q J)

-- the floor does not fall as time goes on
floor-above : (g : Setting) (l n m : ℕ) → l ≤ 4000000000000000 → n ≤ m → g.closing (g.stamp m) None ≤ l → n < floor g l
floor-above g l n m u a b =
    let c = g.counted m l (g.from (g.stamp m) None l b u) in
    let h = highest-above (ripe_at g l) (g.upto l) m c (le-leb (g.closing (g.stamp m) None) l b) in
    omega arith

floor_up : (g : Setting) (l k n : ℕ) → k ≤ 4000000000000000 → l ≤ k → g.first ≤ n → n < floor g l → n < floor g k
floor_up g l k n u a f b =
    let w = highest_why (ripe_at g l) (g.upto l) n (omega arith) in
    let c = leb-true (g.closing (g.stamp w.0) None) l w.2 in
    floor-above g k n w.0 u w.1 (omega arith)

later_up : (l : ℕ) (o : Option ℕ) → l ≤ later l o
later_up l None = omega arith
later_up l (Some r) = omega arith

some_else : {A : Type 0} (x y : Option A) → is_some x ≡ true → or_else x y ≡ x
some_else None y e = absurd (both_ways true (sym e) refl)
some_else (Some a) y e = refl

having_up : (g : Setting) (p n : ℕ) (x : Option (List ℕ)) (o : Option Taken) → is_some x ≡ true → having g p n x o ≡ x
having_up g p n x None h = refl
having_up g p n x (Some f) h = rw (some_else x (Some f.bytes) h) (elim (eqb f.verdict 0 && (eqb f.port p && fits g f.port f.bytes n)) as (λ t. cond t x x ≡ x) [ true ↦ refl | false ↦ refl ])

-- a closed slot is below the floor or complete
closed_why : (g : Setting) → IgnoresArrivals g → {J : Journal} {n : ℕ} → latest g J ≤ 4000000000000000 → Closed g J n → (g.first ≤ n) × ((n < floor g (latest g J)) ⊎ Complete g J n)
closed_why g ig {J} {n} u (by_time m a b r) = (a, inl (floor-above g (latest g J) n m u b (rw (ig (g.stamp m) (arrival g J m)) at r)))
closed_why g ig u (by_frames a f k) = (a, inr f)
closed_why g ig u (still {J} {e} {n} h) =
    let up = later_up (latest g J) (tick_of e) in
    let w = closed_why g ig (omega arith) h in (
      w.0,
      elim w.1 [
        | inl b ↦ inl (floor_up g (latest g J) (later (latest g J) (tick_of e)) n u up w.0 b)
        | inr f ↦ inr (λ p l. rw (having_up g p n (accepted g J p n) (frame_of e) (f p l)) (f p l))
      ],
    )

begun : {K J : Journal} {e : Event} → K ▹ e ≼ J → K ≼ J
begun all = more all
begun (more h) = more (begun h)

tally_down : (v i : ℕ) (o : Option Taken) → counting v i o ≡ 0 → i ≡ 0
tally_down v i None h = h
tally_down v i (Some f) h = omega arith

cond_same : {A : Type 0} (t u : Bool) (x y : Option A) → is_some x ≡ true → cond t (or_else x y) x ≡ cond u (or_else x y) x
cond_same true true x y e = refl
cond_same true false x y e = some_else x y e
cond_same false true x y e = sym (some_else x y e)
cond_same false false x y e = refl

not_low : (a b c : Bool) → b ≡ false → (a && (b && c)) ≡ false
not_low true b c e = rw e
not_low false b c e = refl

not_near : (a b c : Bool) → c ≡ false → (a && (b && c)) ≡ false
not_near true true c e = e
not_near true false c e = refl
not_near false b c e = refl

module _ (g : Setting) (ig : IgnoresArrivals g) (s : State) (J : Journal) (i : Inv g s J) (q n : ℕ) where
  -- the front is at or above the floor
  floor-low : s.front ≤ n → floor g (latest g J) ≤ n
  floor-low up = elim (cases_lt n (highest (ripe_at g (latest g J)) (g.upto (latest g J)))) [
    | inr h ↦ omega (arith, i.base.low)
    | inl h ↦
        let w = highest_why (ripe_at g (latest g J)) (g.upto (latest g J)) n h in
        let c = leb-true (g.closing (g.stamp w.0) None) (latest g J) w.2 in
        let r : Ripe g J w.0 = rw (ig (g.stamp w.0) (arrival g J w.0)) c in
        absurd (both_ways (ripe g s w.0) (i.unripe w.0 (omega (arith, w.1))) (is_ripe g s J i.base w.0 (omega (arith, w.1, i.base.low)) r))
  ]

  -- a frame of q: it is put into the slot, or would be if the slot had none of q's, just if it is in time
  own : (b : List ℕ) (o : Sort) (v : ℕ) → g.sound q b ≡ o → Judging g s q o v → (v ≡ 22 → ⊥) →
      cond (eqb v 0 && fits g q b n) (or_else (accepted g J q n) (Some b)) (accepted g J q n)
      ≡ cond (timely g q b n (latest g J)) (or_else (accepted g J q n) (Some b)) (accepted g J q n)
  own b o v e (faulty z) h = rw (e, ne_eqb v 0 (λ y. omega arith))
  own b o v e (far {n = m} a) h = rw e (elim (eqb_tells m n) [
    | inl x ↦ rw (not_near (eqb m n) (leb (floor g (latest g J)) n) (leb (g.stamp n) (latest g J + 100000)) (lt-leb (g.stamp n) (latest g J + 100000) (rw (← x.1, ← i.base.latest) a)))
    | inr x ↦ rw x.0
  ])
  own b o v e (late {n = m} near a) h = elim (eqb_tells m n) [
    | inr x ↦ rw (e, x.0)
    | inl x ↦
        let low : n < s.front = omega (arith, x.1) in
        let below : n < floor g (latest g J) → cond (false && fits g q b n) (or_else (accepted g J q n) (Some b)) (accepted g J q n) ≡ cond (timely g q b n (latest g J)) (or_else (accepted g J q n) (Some b)) (accepted g J q n) =
        (λ f. rw (not_low (fits g q b n) (leb (floor g (latest g J)) n) (leb (g.stamp n) (latest g J + 100000)) (lt-leb (floor g (latest g J)) n f))) in
        elim (cases_lt n g.first) [
          | inl f ↦ below (omega arith)
          | inr f ↦ elim (closed_why g ig (rw (← i.base.latest) i.base.usable) (i.base.closes n f low)).1 [
            | inl k ↦ below k
            | inr c ↦ cond_same false (timely g q b n (latest g J)) (accepted g J q n) (Some b) (c q (g.planned q b m e))
          ]
        ]
  ]
  own b o v e (ahead {n = m} a c d) h = absurd (h refl)
  own b o v e (again {n = m} near up below a) h = elim (eqb_tells m n) [
    | inr x ↦ rw (e, x.0)
    | inl x ↦ cond_same false (timely g q b n (latest g J)) (accepted g J q n) (Some b) (rw (← i.base.held n q (omega (arith, x.1, i.base.low)), ← x.1) a)
  ]
  own b o v e (fresh {n = m} near up below empty) h = rw e (elim (eqb_tells m n) [
    | inr x ↦ rw x.0
    | inl x ↦
        let f : leb (floor g (latest g J)) n ≡ true = le-leb (floor g (latest g J)) n (floor-low (omega (arith, x.1))) in
        let t : leb (g.stamp n) (latest g J + 100000) ≡ true = le-leb (g.stamp n) (latest g J + 100000) (rw (← x.1, ← i.base.latest) near) in
        rw (x.0, f, t)
  ])

  on : accepted g J q n ≡ in_time g q n (seen g q J) → {e : Event} → Answered g s e → tally (J ▹ e) 22 ≡ 0 → accepted g (J ▹ e) q n ≡ in_time g q n (seen g q (J ▹ e))
  on same (ticked r len m a c) z = same
  on same (lent e f) z = same
  on same (wrote len k o l) z = same
  on same told z = same
  on same (refused r) z = same
  on same (took w p b {o} {v} l c e j) z = elim (eqb_tells p q) [
    | inl x ↦
        let e' = subst (λ (r : ℕ). g.sound r b ≡ o) x.1 e in
        let j' = subst (λ (r : ℕ). Judging g s r o v) x.1 j in
        let no : v ≡ 22 → ⊥ = (λ y. let u : one (eqb v 22) ≡ 1 = rw (eq-eqb v 22 y) in omega arith) in
        rw (x.1, eq-eqb q q refl, reading_is g q J, ← same) (own b o v e' j' no)
    | inr x ↦ rw x.0 (elim (eqb v 0) as (λ t. cond (t && false) (or_else (accepted g J q n) (Some b)) (accepted g J q n) ≡ in_time g q n (seen g q J)) [ true ↦ same | false ↦ same ])
  ]

-- what port q has in slot n, from what q has seen
pub from-seen : (g : Setting) → IgnoresArrivals g → (B : Behaviour) (cs : Past Call) (q n : ℕ) → tally (journal g B cs) 22 ≡ 0 → accepted g (journal g B cs) q n ≡ in_time g q n (seen g q (journal g B cs))
from-seen g ig B start q n z = refl
from-seen g ig B (cs ▹ c) q n z =
    let s = state g B cs in
    let ih = from-seen g ig B cs q n (tally_down 22 (tally (journal g B cs) 22) (frame_of (event g s c)) z) in
    on g ig s (journal g B cs) (run g B cs) q n ih (answered g s c) z

-- what a write gave is what the run's end says of the slot
pub given : (g : Setting) (B : Behaviour) (cs : Past Call) (n : ℕ) (x : List ℕ) → Gave (journal g B cs) n x → x ≡ frame_at g (journal g B cs) n
given g B cs n x w =
    let o = orderly g B cs w.0 w.1 n x w.2 in
    o.bytes ∙ sym (frame-kept g B n (begun w.2) o.closed cs refl)
