-- Why a call answered as it did: the cases that the proofs about calls go through, found once.
use Rattle.std.proofs.Common.{◌≡◌, ℕ, suc, ◌+◌, ◌<◌, ◌≤◌, true, false, ◌⊎◌, List, [], ◌∷◌, is_some, Some, None, Option, sym, refl, ap, subst, inl, inr, arith}
use Rattle.std.proofs.lemmas.Bool.{cases_Bool, both_ways, eqb-true, eqb-false}
use Rattle.std.proofs.lemmas.Bool.Decides.{leb_tells}
use Rattle.laws.specs.Setting.{Setting, Sort, Fault, Slot}
use Rattle.feed.specs.Feeds.{Waiting}
use Rattle.laws.specs.Journal.{Call, Ticking, Admitting, Pulling, Taking, Writing, Counting, Source, Host, Feed, Event, Ticked, Took, Lent, Wrote, Told, Refused}
use Rattle.laws.specs.Machine.{State, oldest, judge_in, judge, limit, pulls, lends, is_out, event}

-- why a verdict was given
pub data Judging (g : Setting) (s : State) (q : ℕ) : Sort → ℕ → Type 0 where
  faulty : {k : ℕ} → (0 < k) × (k < 20) → Judging g s q (Fault k) k
  far : {n : ℕ} → s.latest + 100000 < g.stamp n → Judging g s q (Slot n) 10
  late : {n : ℕ} → g.stamp n ≤ s.latest + 100000 → n < s.front → Judging g s q (Slot n) 20
  ahead : {n : ℕ} → g.stamp n ≤ s.latest + 100000 → s.front ≤ n → oldest g s + 32 ≤ n → Judging g s q (Slot n) 22
  again : {n : ℕ} → g.stamp n ≤ s.latest + 100000 → s.front ≤ n → n < oldest g s + 32 → is_some (s.held n q) ≡ true → Judging g s q (Slot n) 21
  fresh : {n : ℕ} → g.stamp n ≤ s.latest + 100000 → s.front ≤ n → n < oldest g s + 32 → is_some (s.held n q) ≡ false → Judging g s q (Slot n) 0

-- one verdict, by another that it equals
as_said : {g : Setting} {s : State} {q : ℕ} {o : Sort} {v w : ℕ} → w ≡ v → Judging g s q o v → Judging g s q o w
as_said {g} {s} {q} {o} e x = subst (Judging g s q o) (sym e) x

pub judging : (g : Setting) (s : State) (q : ℕ) (o : Sort) → ((k : ℕ) → o ≡ Fault k → (0 < k) × (k < 20)) → Judging g s q o (judge_in g s q o)
judging g s q (Fault k) h = faulty (h k refl)
judging g s q (Slot n) h = elim (leb_tells (suc (s.latest + 100000)) (g.stamp n)) [
  | inl a ↦ as_said (cc (a.0)) (far a.1)
  | inr a ↦ let near : g.stamp n ≤ s.latest + 100000 = omega (arith, a.1) in elim (leb_tells (suc n) s.front) [
    | inl b ↦ as_said (cc (a.0, b.0)) (late near b.1)
    | inr b ↦ let up : s.front ≤ n = omega (arith, b.1) in elim (leb_tells (oldest g s + 32) n) [
      | inl c ↦ as_said (cc (a.0, b.0, c.0)) (ahead near up c.1)
      | inr c ↦ elim (cases_Bool (is_some (s.held n q))) [
        | inl d ↦ as_said (cc (a.0, b.0, c.0, d)) (again near up c.1 d)
        | inr d ↦ as_said (cc (a.0, b.0, c.0, d)) (fresh near up c.1 d)
      ]
    ]
  ]
]

pub no_some : {A : Type 0} (k : A) → None ≡ Some k → ⊥
no_some k e = let z : ◌≡◌ {A = ℕ} 0 1 = cc in omega arith

pub none-some : false ≡ true → ⊥
none-some e = both_ways true (sym e) refl

pub out_is : (o : Option ℕ) (k : ℕ) → is_out o k ≡ true → o ≡ Some k
out_is None k e = let z : ◌≡◌ {A = ℕ} 0 1 = cc in let no : ⊥ = omega arith in absurd no
out_is (Some n) k e = ap Some (eqb-true n k e)

-- where a frame came from: the feed's frame was the first that waited
pub data Came (s : State) : Source → ℕ → List ℕ → Type 0 where
  by-host : {q : ℕ} {b : List ℕ} → Came s Host q b
  by-feed : {len q : ℕ} {b : List ℕ} (fs : List Waiting) → 1040 ≤ len → s.feed [] ≡ record { port = q; bytes = b } ∷ fs → Came s (Feed len) q b

-- why a call was refused
pub data Refusing (g : Setting) (s : State) : Call → ℕ → Type 0 where
  tick-short : {r len : ℕ} → len < 1040 → Refusing g s (Ticking r len) 17
  large : {r len : ℕ} → 1040 ≤ len → (4000000000000000 < r) ⊎ (s.latest + 60000000 < r) → Refusing g s (Ticking r len) 14
  much : {q : ℕ} {b : List ℕ} → limit ≤ s.judged → Refusing g s (Admitting q b) 28
  pull_short : {len : ℕ} → len < 1040 → Refusing g s (Pulling len) 17
  most : {len : ℕ} → 1040 ≤ len → limit ≤ s.judged → Refusing g s (Pulling len) 28
  dry : {len : ℕ} → 1040 ≤ len → s.judged < limit → s.feed [] ≡ [] → Refusing g s (Pulling len) 30
  lent_out : {k : ℕ} → s.out ≡ Some k → Refusing g s Taking 24
  none-closed : s.out ≡ None → s.front ≤ oldest g s → Refusing g s Taking 23
  short : {k len : ℕ} → s.out ≡ Some k → len < g.size → Refusing g s (Writing k len) 17
  not_out : {k len : ℕ} → (s.out ≡ Some k → ⊥) → Refusing g s (Writing k len) 29

-- why an event came
pub data Answered (g : Setting) (s : State) : Event → Type 0 where
  ticked : (r len : ℕ) → 1040 ≤ len → r ≤ 4000000000000000 → r ≤ s.latest + 60000000 → Answered g s (Ticked r len)
  took : (w : Source) (q : ℕ) (b : List ℕ) {o : Sort} {v : ℕ} → s.judged < limit → Came s w q b → g.sound q b ≡ o → Judging g s q o v → Answered g s (Took w q b v)
  lent : s.out ≡ None → oldest g s < s.front → Answered g s (Lent (oldest g s))
  wrote : (len k : ℕ) → s.out ≡ Some k → g.size ≤ len → Answered g s (Wrote len k (g.frame k (s.held k)))
  told : Answered g s (Told (s.tally 0) s.written s.tally)
  refused : {c : Call} {k : ℕ} → Refusing g s c k → Answered g s (Refused c k)

out_not : (o : Option ℕ) (k : ℕ) → is_out o k ≡ false → o ≡ Some k → ⊥
out_not None k e p = no_some k p
out_not (Some n) k e p = let q : n ≡ k = cc in eqb-false n k e q

module _ (g : Setting) (s : State) where
  judged : (w : Source) (q : ℕ) (b : List ℕ) → s.judged < limit → Came s w q b → Answered g s (Took w q b (judge g s q b))
  judged w q b l c = took w q b l c refl (judging g s q (g.sound q b) (g.numbered q b))

  pulled : (len : ℕ) (fs : List Waiting) → 1040 ≤ len → s.judged < limit → s.feed [] ≡ fs → Answered g s (pulls g s len fs)
  pulled len [] m l e = refused (dry m l e)
  pulled len (f ∷ fs) m l e = judged (Feed len) f.port f.bytes l (by-feed fs m e)

  lending : (o : Option ℕ) → s.out ≡ o → Answered g s (lends g s o)
  lending (Some k) e = refused (lent_out e)
  lending None e = elim (leb_tells (suc (oldest g s)) s.front) [ inl f ↦ rw f.0 (lent e f.1) | inr f ↦ let d : s.front ≤ oldest g s = omega (arith, f.1) in rw f.0 (refused (none-closed e d)) ]

  pub answered : (c : Call) → Answered g s (event g s c)
  answered (Ticking r len) = elim (leb_tells (suc len) 1040) [
    | inl c ↦ rw c.0 (refused (tick-short c.1))
    | inr c ↦ let room : 1040 ≤ len = omega (arith, c.1) in rw c.0 (elim (leb_tells (suc 4000000000000000) r) [
      | inl a ↦ rw a.0 (refused (large room (inl a.1)))
      | inr a ↦ rw a.0 (elim (leb_tells (suc (s.latest + 60000000)) r) [
        | inl b ↦ rw b.0 (refused (large room (inr b.1)))
        | inr b ↦ rw b.0 (ticked r len room (omega (arith, a.1)) (omega (arith, b.1)))
      ])
    ])
  ]
  answered (Admitting q b) = elim (leb_tells limit s.judged) [ inl a ↦ rw a.0 (refused (much a.1)) | inr a ↦ rw a.0 (judged Host q b a.1 by-host) ]
  answered (Pulling len) = elim (leb_tells (suc len) 1040) [
    | inl c ↦ rw c.0 (refused (pull_short c.1))
    | inr c ↦ let room : 1040 ≤ len = omega (arith, c.1) in rw c.0 (elim (leb_tells limit s.judged) [
      | inl a ↦ rw a.0 (refused (most room a.1))
      | inr a ↦ rw a.0 (pulled len (s.feed []) room a.1 refl)
    ])
  ]
  answered Taking = lending s.out refl
  answered (Writing k len) = elim (cases_Bool (is_out s.out k)) [
    | inl e ↦ rw e (elim (leb_tells (suc len) g.size) [
      | inl f ↦ rw f.0 (refused (short (out_is s.out k e) f.1))
      | inr f ↦ rw f.0 (wrote len k (out_is s.out k e) (omega (arith, f.1)))
    ])
    | inr e ↦ rw e (refused (not_out (out_not s.out k e)))
  ]
  answered Counting = told
