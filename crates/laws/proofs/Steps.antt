-- Each call takes the state and its journal on together, and so does every run.
use Rattle.std.proofs.Common.{◌≡◌, ℕ, suc, ◌+◌, ◌<◌, ◌≤◌, Bool, true, false, cond, ◌&&◌, eqb, List, is_some, Some, None, sym, refl, ap, ◌∙◌, subst, inl, inr, arith}
use Rattle.std.proofs.lemmas.Bool.{ne_eqb}
use Rattle.std.proofs.lemmas.Bool.Decides.{eqb_tells}
use Rattle.laws.specs.Setting.{Setting, Sort}
use Rattle.feed.specs.Feeds.{Behaviour}
use Rattle.laws.specs.Journal.{Past, start, ◌▹◌, Call, Ticking, Admitting, Pulling, Taking, Writing, Counting, Source, Event, Ticked, Took, Lent, Wrote, Told, Refused, Journal, or_else, latest, writes, fits, accepted, arrival, still}
use Rattle.laws.specs.Machine.{State, oldest, all_held, past_complete_of, with_front, settled, tallied, put, placed, timed, ticket, next, state, journal}
use Rattle.laws.proofs.Why.{no_some, none-some, Judging, faulty, far, late, ahead, again, fresh, Answered, ticked, took, lent, wrote, told, refused, answered}
use Rattle.laws.proofs.Inv.{Inv, settle, narrow, none_of}

-- one more call
abbrev Step : Setting → State → Journal → Event → Type 0
Step g s J e = Inv g (next g s e) (J ▹ e)

-- an event after which the slots, the front and the ticket are as they were
same_step : (g : Setting) (s : State) (J : Journal) (e : Event) → Inv g s J → latest g (J ▹ e) ≡ latest g J → writes (J ▹ e) ≡ writes J → ((p n : ℕ) → accepted g (J ▹ e) p n ≡ accepted g J p n) → ((n : ℕ) → arrival g (J ▹ e) n ≡ arrival g J n) → Inv g s (J ▹ e)
same_step g s J e i l w a r = record {
  base = record {
    latest = i.base.latest ∙ sym l;
    usable = i.base.usable;
    written = i.base.written ∙ sym w;
    held = λ n p u. i.base.held n p u ∙ sym (a p n);
    arrived = λ n u. i.base.arrived n u ∙ sym (r n);
    low = i.base.low;
    window = i.base.window;
    near = i.base.near;
    closes = λ n x y. still (i.base.closes n x y);
    out = i.base.out;
  };
  unripe = i.unripe;
  incomplete = i.incomplete;
}

-- counting a frame changes nothing here
inv_tallied : (g : Setting) (s : State) (J : Journal) (w : Source) (v : ℕ) → Inv g s J → Inv g (tallied s w v) J
inv_tallied g s J w v i = record {
  base = record { latest = i.base.latest; usable = i.base.usable; written = i.base.written; held = i.base.held; arrived = i.base.arrived; low = i.base.low; window = i.base.window; near = i.base.near; closes = i.base.closes; out = i.base.out };
  unripe = i.unripe;
  incomplete = i.incomplete;
}

module _ (g : Setting) (s : State) (J : Journal) (i : Inv g s J) where
  refused-step : (c : Call) (k : ℕ) → Step g s J (Refused c k)
  refused-step (Ticking r len) k = same_step g s J (Refused (Ticking r len) k) i refl refl (λ p n. refl) (λ n. refl)
  refused-step (Admitting q b) k = same_step g s J (Refused (Admitting q b) k) i refl refl (λ p n. refl) (λ n. refl)
  refused-step (Pulling len) k = same_step g s J (Refused (Pulling len) k) i refl refl (λ p n. refl) (λ n. refl)
  refused-step Taking k = same_step g s J (Refused Taking k) i refl refl (λ p n. refl) (λ n. refl)
  refused-step Counting k = same_step g s J (Refused Counting k) i refl refl (λ p n. refl) (λ n. refl)
  refused-step (Writing n len) k = elim (eqb k 17) as (λ t. Inv g (cond t (ticket s None) s) (J ▹ Refused (Writing n len) k)) [
    | true ↦ record {
      base = record { latest = i.base.latest; usable = i.base.usable; written = i.base.written; held = i.base.held; arrived = i.base.arrived; low = i.base.low; window = i.base.window; near = i.base.near; closes = λ n x y. still (i.base.closes n x y); out = λ k e. absurd (no_some k e) };
      unripe = i.unripe;
      incomplete = i.incomplete;
    }
    | false ↦ same_step g s J (Refused (Writing n len) k) i refl refl (λ p n. refl) (λ n. refl)
  ]

  -- the reading goes up to l, which is the latest now
  timed-step : (r len l : ℕ) → l ≡ latest g (J ▹ Ticked r len) → s.latest ≤ l → l ≤ 4000000000000000 → Inv g (settled g (timed s l)) (J ▹ Ticked r len)
  timed-step r len l is up in_use = settle g (timed s l) (J ▹ Ticked r len) (record {
    latest = is;
    usable = in_use;
    written = i.base.written;
    held = i.base.held;
    arrived = i.base.arrived;
    low = i.base.low;
    window = i.base.window;
    near = λ n p x. let y = i.base.near n p x in omega arith;
    closes = λ n x y. still (i.base.closes n x y);
    out = i.base.out;
  })

  ticked-step : (r len : ℕ) → r ≤ 4000000000000000 → Step g s J (Ticked r len)
  ticked-step r len in_use =
      let l = (next g s (Ticked r len)).latest in
      let is : l ≡ latest g (J ▹ Ticked r len) = cc (i.base.latest) in
      timed-step r len l is (omega arith) (omega (arith, i.base.usable))

  lent-step : oldest g s < s.front → Step g s J (Lent (oldest g s))
  lent-step f = record {
    base = record {
      latest = i.base.latest;
      usable = i.base.usable;
      written = i.base.written;
      held = i.base.held;
      arrived = i.base.arrived;
      low = i.base.low;
      window = i.base.window;
      near = i.base.near;
      closes = λ n x y. still (i.base.closes n x y);
      out = λ k e. let q : oldest g s ≡ k = cc in (sym q, omega arith);
    };
    unripe = i.unripe;
    incomplete = i.incomplete;
  }

  wrote-step : (len k : ℕ) → s.out ≡ Some k → Step g s J (Wrote len k (g.frame k (s.held k)))
  wrote-step len k e =
      let o = i.base.out k e in
      record {
        base = record {
          latest = i.base.latest;
          usable = i.base.usable;
          written = ap suc i.base.written;
          held = λ n p u. rw (ne_eqb k n (λ y. omega (arith, o.0))) (i.base.held n p (omega arith));
          arrived = λ n u. rw (ne_eqb k n (λ y. omega (arith, o.0))) (i.base.arrived n (omega arith));
          low = omega (arith, o.0, o.1);
          window = λ n p x. elim (eqb_tells k n) [
            | inl y ↦ absurd (none-some (rw y.0 at x))
            | inr y ↦ let w = i.base.window n p (rw y.0 at x) in omega arith
          ];
          near = λ n p x. elim (eqb_tells k n) [
            | inl y ↦ absurd (none-some (rw y.0 at x))
            | inr y ↦ i.base.near n p (rw y.0 at x)
          ];
          closes = λ n x y. still (i.base.closes n x y);
          out = λ k e. absurd (no_some k e);
        };
        unripe = λ n u. rw (ne_eqb k n (λ y. omega (arith, o.1))) (i.unripe n u);
        incomplete = subst (λ (t : Bool). all_held (λ p. cond t None (s.held s.front p)) g.ports ≡ false) (sym (ne_eqb k s.front (λ y. omega (arith, o.1)))) i.incomplete;
      }

  -- a frame that was taken
  took_in : (w : Source) (q : ℕ) (b : List ℕ) (o : Sort) (v : ℕ) → g.sound q b ≡ o → Judging g s q o v → Inv g (placed g s q b v o) (J ▹ Took w q b v)
  took_in w q b o v e (faulty {k} z) =
      let ne : eqb k 0 ≡ false = ne_eqb k 0 (λ x. omega arith) in
      same_step g s J (Took w q b k) i refl refl (λ p n. rw ne) (λ n. rw ne)
  took_in w q b o v e (far {n} a) = same_step g s J (Took w q b 10) i refl refl (λ p n. refl) (λ n. refl)
  took_in w q b o v e (late {n} a c) = same_step g s J (Took w q b 20) i refl refl (λ p n. refl) (λ n. refl)
  took_in w q b o v e (ahead {n} a c d) = same_step g s J (Took w q b 22) i refl refl (λ p n. refl) (λ n. refl)
  took_in w q b o v e (again {n} a c d f) = same_step g s J (Took w q b 21) i refl refl (λ p n. refl) (λ n. refl)
  took_in w q b o v e (fresh {n} near up below empty) = subst (λ (f : ℕ). Inv g (with_front (put s q b n) (past_complete_of g (put s q b n) f)) (J ▹ Took w q b 0)) (sym (narrow g s J i q b n up)) (settle g (put s q b n) (J ▹ Took w q b 0) (record {
    latest = i.base.latest;
    usable = i.base.usable;
    written = i.base.written;
    held = holds;
    arrived = arrives;
    low = i.base.low;
    window = windows;
    near = nears;
    closes = λ n x y. still (i.base.closes n x y);
    out = i.base.out;
  }))
    where
      holds : (k p : ℕ) → g.first + s.written ≤ k → cond (eqb n k && eqb q p) (Some b) (s.held k p) ≡ cond (eqb q p && fits g q b k) (or_else (accepted g J p k) (Some b)) (accepted g J p k)
      holds k p o = rw e (elim (eqb_tells n k) [
        | inl x ↦ elim (eqb_tells q p) [
          | inl y ↦
              let z : accepted g J p k ≡ None = rw (← x.1, ← y.1) (sym (i.base.held n q (omega (arith, i.base.low))) ∙ none_of (s.held n q) empty) in
              rw (x.0, y.0, z)
          | inr y ↦ rw (x.0, y.0) (i.base.held k p o)
        ]
        | inr x ↦ elim (eqb_tells q p) [ inl y ↦ rw (x.0, y.0) (i.base.held k p o) | inr y ↦ rw (x.0, y.0) (i.base.held k p o) ]
      ])

      arrives : (k : ℕ) → g.first + s.written ≤ k → cond (eqb n k) (or_else (s.arrived k) (Some s.latest)) (s.arrived k) ≡ cond (fits g q b k) (or_else (arrival g J k) (Some (latest g J))) (arrival g J k)
      arrives k o = rw (e, i.base.arrived k o, i.base.latest)

      windows : (k p : ℕ) → is_some (cond (eqb n k && eqb q p) (Some b) (s.held k p)) ≡ true → k < g.first + s.written + 32
      windows k p h = elim (eqb_tells n k) [
        | inl x ↦ omega (arith, x.1)
        | inr x ↦ i.base.window k p (rw x.0 at h)
      ]

      nears : (k p : ℕ) → is_some (cond (eqb n k && eqb q p) (Some b) (s.held k p)) ≡ true → g.stamp k ≤ s.latest + 100000
      nears k p h = elim (eqb_tells n k) [
        | inl x ↦ subst (λ (m : ℕ). g.stamp m ≤ s.latest + 100000) x.1 near
        | inr x ↦ i.base.near k p (rw x.0 at h)
      ]

  step : {e : Event} → Answered g s e → Step g s J e
  step (ticked r len m a b) = ticked-step r len a
  step (took w q b {o} {v} l c e j) = inv_tallied g (placed g s q b v (g.sound q b)) (J ▹ Took w q b v) w v (subst (λ (z : Sort). Inv g (placed g s q b v z) (J ▹ Took w q b v)) (sym e) (took_in w q b o v e j))
  step (lent e f) = lent-step f
  step (wrote len k o l) = wrote-step len k o
  step told = same_step g s J (Told (s.tally 0) s.written s.tally) i refl refl (λ p n. refl) (λ n. refl)
  step (refused {c} {k} r) = refused-step c k

pub run : (g : Setting) (B : Behaviour) (cs : Past Call) → Inv g (state g B cs) (journal g B cs)
run g B start = settle g (record { feed = B; latest = g.opening; front = g.first; held = λ n p. None; arrived = λ n. None; written = 0; out = None; tally = λ v. 0; judged = 0 }) start (record {
  latest = refl;
  usable = g.usable;
  written = refl;
  held = λ n p u. refl;
  arrived = λ n u. refl;
  low = omega arith;
  window = λ n p e. let no : ⊥ = none-some e in absurd no;
  near = λ n p e. let no : ⊥ = none-some e in absurd no;
  closes = λ n a b. let no : ⊥ = omega arith in absurd no;
  out = λ k e. absurd (no_some k e);
})
run g B (cs ▹ c) = step g (state g B cs) (journal g B cs) (run g B cs) (answered g (state g B cs) c)
