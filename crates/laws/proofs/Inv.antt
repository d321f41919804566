-- The state of a run and its journal say the same.
use Rattle.std.proofs.Common.{◌≡◌, ℕ, zero, suc, ◌+◌, ◌-◌, ◌<◌, ◌≤◌, max, Bool, true, false, cond, not, ◌&&◌, ltb, leb, List, is_some, Some, None, Option, sym, refl, ap, subst, inl, inr, arith}
use mathlib.Core.Path.{fun_ext}
use Rattle.std.proofs.lemmas.Bool.{cases_Bool, cases_eq, cases_lt, both_ways, and_parts, and_from, leb-true, le-leb, lt-ltb, ne_eqb, eq-eqb}
use Rattle.std.proofs.lemmas.Bool.Decides.{leb_tells}
use Rattle.laws.specs.Setting.{Setting}
use Rattle.laws.specs.Journal.{Journal, or_else, latest, writes, accepted, frame_at, arrival, Ripe, Complete, Closed, by_time, by_frames}
use Rattle.laws.specs.Machine.{State, oldest, full, within_window, complete, ripe, highest, past_ripe_of, past_complete_of, settled, ripened_by, put}
use Rattle.laws.proofs.Why.{none-some}
use Rattle.laws.proofs.Fronts.{highest-above, highest_why, beyond_up, beyond_why, beyond-stop, all_of, all_from}

-- what holds before the front moves, too
pub record Base (g : Setting) (s : State) (J : Journal) : Type 0 where
  pub latest : s.latest ≡ latest g J
  pub usable : s.latest ≤ 4000000000000000
  pub written : s.written ≡ writes J
  pub held : (n p : ℕ) → g.first + s.written ≤ n → s.held n p ≡ accepted g J p n
  pub arrived : (n : ℕ) → g.first + s.written ≤ n → s.arrived n ≡ arrival g J n
  pub low : g.first + s.written ≤ s.front
  pub window : (n p : ℕ) → is_some (s.held n p) ≡ true → n < g.first + s.written + 32
  pub near : (n p : ℕ) → is_some (s.held n p) ≡ true → g.stamp n ≤ s.latest + 100000
  pub closes : (n : ℕ) → g.first ≤ n → n < s.front → Closed g J n
  pub out : (k : ℕ) → s.out ≡ Some k → (k ≡ g.first + s.written) × (k < s.front)

pub record Inv (g : Setting) (s : State) (J : Journal) : Type 0 where
  pub base : Base g s J
  pub unripe : (n : ℕ) → s.front ≤ n → ripe g s n ≡ false
  pub incomplete : full g s s.front ≡ false

-- what the model calls ripe and full is ripe and complete
ripe_is : (g : Setting) (s : State) (J : Journal) → Base g s J → (n : ℕ) → g.first + s.written ≤ n → ripe g s n ≡ true → Ripe g J n
ripe_is g s J h n u e =
    let a : g.closing (g.stamp n) (s.arrived n) ≤ s.latest = leb-true (g.closing (g.stamp n) (s.arrived n)) s.latest e in
    rw (← h.arrived n u, ← h.latest) a

full_is : (g : Setting) (s : State) (J : Journal) → Base g s J → (n : ℕ) → g.first + s.written ≤ n → full g s n ≡ true → Complete g J n
full_is g s J h n u e p l = rw (← h.held n p u) (all_of (s.held n) g.ports p e l)

pub is_ripe : (g : Setting) (s : State) (J : Journal) → Base g s J → (n : ℕ) → g.first + s.written ≤ n → Ripe g J n → ripe g s n ≡ true
is_ripe g s J h n u e = rw (h.arrived n u, h.latest) (le-leb (g.closing (g.stamp n) (arrival g J n)) (latest g J) e)

pub is_full : (g : Setting) (s : State) (J : Journal) → Base g s J → (n : ℕ) → g.first + s.written ≤ n → Complete g J n → full g s n ≡ true
is_full g s J h n u e = all_from (s.held n) g.ports (λ p l. rw (h.held n p u) (e p l))

-- the frame of what is held is the frame of what was accepted
pub framed : (g : Setting) (s : State) (J : Journal) → Base g s J → (n : ℕ) → g.first + s.written ≤ n → g.frame n (s.held n) ≡ frame_at g J n
framed g s J h n u = ap (g.frame n) (fun_ext (λ p. h.held n p u))

pub past_up : (g : Setting) (s : State) (f : ℕ) → f ≤ past_complete_of g s f
past_up g s f = beyond_up (complete g s) (g.upto (s.latest + 100000) - f) f

-- a slot from the oldest on with a frame of every port is complete
is_complete : (g : Setting) (s : State) (J : Journal) → Base g s J → (n : ℕ) → g.first + s.written ≤ n → full g s n ≡ true → complete g s n ≡ true
is_complete g s J h n a f =
    let w = h.window n 0 (all_of (s.held n) g.ports 0 f g.populated) in
    and_from (within_window (oldest g s) n) (full g s n)
    (and_from (leb (oldest g s) n) (ltb n (oldest g s + 32)) (le-leb (oldest g s) n a) (lt-ltb n (oldest g s + 32) w)) f

-- the front moves, and all is well
module _ (g : Setting) (s : State) (J : Journal) (h : Base g s J) where
  settled_up : s.front ≤ (settled g s).front
  settled_up = let u = past_up g s (past_ripe_of g s) in omega arith

  closes-top : (n : ℕ) → g.first ≤ n → n < past_ripe_of g s → Closed g J n
  closes-top n a b = elim (cases_lt n s.front) [
    | inl c ↦ h.closes n a c
    | inr c ↦ let w = highest_why (ripe g s) (g.upto s.latest) n (omega arith) in by_time w.0 a w.1 (ripe_is g s J h w.0 (omega (arith, h.low, w.1)) w.2)
  ]

  closes-upto : (k n : ℕ) → n < k → g.first ≤ n → n < (settled g s).front → Closed g J n
  closes-upto zero n l a b = let no : ⊥ = omega arith in absurd no
  closes-upto (suc k) n l a b = elim (cases_lt n (past_ripe_of g s)) [
    | inl c ↦ closes-top n a c
    | inr c ↦
        let e = beyond_why (complete g s) (g.upto (s.latest + 100000) - past_ripe_of g s) (past_ripe_of g s) n c b in
        let f = and_parts (within_window (oldest g s) n) (full g s n) e in
        by_frames a (full_is g s J h n (omega (arith, h.low)) f.1) (λ i p q. closes-upto k i (omega arith) p (omega arith))
  ]

  unripe-after : (n : ℕ) → (settled g s).front ≤ n → ripe g s n ≡ false
  unripe-after n a = elim (leb_tells (g.closing (g.stamp n) (s.arrived n)) s.latest) [
    | inl e ↦
        let u = past_up g s (past_ripe_of g s) in
        let c = g.counted n s.latest (g.from (g.stamp n) (s.arrived n) s.latest e.1 h.usable) in
        let t = highest-above (ripe g s) (g.upto s.latest) n c e.0 in
        let no : ⊥ = omega arith in absurd no
    | inr e ↦ e.0
  ]

  incomplete-after : full g s (settled g s).front ≡ false
  incomplete-after = elim (cases_Bool (full g s (settled g s).front)) [
    | inr f ↦ f
    | inl f ↦ elim (beyond-stop (complete g s) (g.upto (s.latest + 100000) - past_ripe_of g s) (past_ripe_of g s)) [
      | inl e ↦ absurd (both_ways (complete g s (settled g s).front) e (is_complete g s J h (settled g s).front (omega (arith, h.low, settled_up)) f))
      | inr e ↦
          let w = h.near (settled g s).front 0 (all_of (s.held (settled g s).front) g.ports 0 f g.populated) in
          let c = g.counted (settled g s).front (s.latest + 100000) w in
          let no : ⊥ = omega arith in absurd no
    ]
  ]

  pub settle : Inv g (settled g s) J
  settle = record {
    base = record {
      latest = h.latest;
      usable = h.usable;
      written = h.written;
      held = h.held;
      arrived = h.arrived;
      low = omega (arith, h.low, settled_up);
      window = h.window;
      near = h.near;
      closes = λ n a b. closes-upto (suc n) n (omega arith) a b;
      out = λ k e. ((h.out k e).0, omega (arith, (h.out k e).1, settled_up));
    };
    unripe = unripe-after;
    incomplete = incomplete-after;
  }

some_else : {A : Type 0} (x y : Option A) → is_some x ≡ true → or_else x y ≡ x
some_else None y e = absurd (none-some e)
some_else (Some a) y e = refl

-- after a frame for a slot at or above the front, the rule that looks at this slot alone is the rule that looks at all
module _ (g : Setting) (s : State) (J : Journal) (i : Inv g s J) (q : ℕ) (b : List ℕ) (n : ℕ) (up : s.front ≤ n) where
  other_unripe : (m : ℕ) → s.front ≤ m → (n ≡ m → ⊥) → ripe g (put s q b n) m ≡ false
  other_unripe m a ne = rw (ne_eqb n m ne) (i.unripe m a)

  later-unripe : is_some (s.arrived n) ≡ true → ripe g (put s q b n) n ≡ false
  later-unripe e =
      let same : (put s q b n).arrived n ≡ s.arrived n = cc (eq-eqb n n refl, some_else (s.arrived n) (Some s.latest) e) in
      rw same (i.unripe n up)

  abbrev top : ℕ
  top = highest (ripe g (put s q b n)) (g.upto s.latest)

  -- none is ripe: the front stays
  none-ripe : ripe g (put s q b n) n ≡ false → top ≤ s.front
  none-ripe r = elim (cases_lt s.front top) [
    | inr l ↦ l
    | inl l ↦
        let w = highest_why (ripe g (put s q b n)) (g.upto s.latest) s.front l in
        elim (cases_eq n w.0) [
          | inl e ↦ absurd (both_ways (ripe g (put s q b n) n) r (subst (λ (m : ℕ). ripe g (put s q b n) m ≡ true) (sym e) w.2))
          | inr e ↦ absurd (both_ways (ripe g (put s q b n) w.0) (other_unripe w.0 w.1 e) w.2)
        ]
  ]

  -- the frame's own slot is ripe: it is the highest
  own-ripe : ripe g (put s q b n) n ≡ true → top ≡ n + 1
  own-ripe r =
      let l = leb-true (g.closing (g.stamp n) ((put s q b n).arrived n)) s.latest r in
      let c = g.counted n s.latest (g.from (g.stamp n) ((put s q b n).arrived n) s.latest l i.base.usable) in
      let t = highest-above (ripe g (put s q b n)) (g.upto s.latest) n c r in
      elim (cases_lt (n + 1) top) [
        | inr k ↦ omega arith
        | inl k ↦
            let w = highest_why (ripe g (put s q b n)) (g.upto s.latest) (n + 1) k in
            absurd (both_ways (ripe g (put s q b n) w.0) (other_unripe w.0 (omega (arith, w.1)) (λ e. omega (arith, w.1))) w.2)
      ]

  pub narrow : ripened_by g (put s q b n) n (not (is_some (s.arrived n))) ≡ past_ripe_of g (put s q b n)
  narrow = elim (cases_Bool (ripe g (put s q b n) n)) [
    | inl r ↦ elim (cases_Bool (is_some (s.arrived n))) [
      | inl a ↦ absurd (both_ways (ripe g (put s q b n) n) (later-unripe a) r)
      | inr a ↦
          cc (a, r, own-ripe r)
    ]
    | inr r ↦
        let l = none-ripe r in
        let e : s.front ≡ past_ripe_of g (put s q b n) = omega arith in
        subst (λ (t : Bool). cond (not (is_some (s.arrived n)) && t) (max s.front (n + 1)) s.front ≡ past_ripe_of g (put s q b n)) (sym r)
        (elim (is_some (s.arrived n)) as (λ t. cond (not t && false) (max s.front (n + 1)) s.front ≡ past_ripe_of g (put s q b n)) [ true ↦ e | false ↦ e ])
  ]

pub none_of : {A : Type 0} (x : Option A) → is_some x ≡ false → x ≡ None
none_of None e = refl
none_of (Some a) e = let z : ◌≡◌ {A = ℕ} 0 1 = cc in let no : ⊥ = omega arith in absurd no
