-- The tallies, the feed and the counts of a run.
use Rattle.std.proofs.Common.{◌≡◌, ℕ, zero, suc, ◌+◌, ◌<◌, ◌≤◌, max, true, false, cond, not, ◌&&◌, eqb, leb, List, [], ◌∷◌, ◌++◌, length, is_some, sym, refl, ap, ◌∙◌, inl, inr, append_assoc, append-nil, arith}
use Rattle.std.proofs.lemmas.Bool.{cases_Bool, ne_eqb, le-leb, lt-leb}
use Rattle.std.proofs.lemmas.Bool.Decides.{leb_tells, eqb_tells}
use Rattle.laws.specs.Setting.{Setting, Sort, Fault, Slot}
use Rattle.feed.specs.Feeds.{Behaviour, Waiting, Op, Tick, Next, Within, within_none, within_more, within_both, rest, Lawful}
use Rattle.laws.specs.Journal.{Past, start, ◌▹◌, Call, Ticking, Admitting, Pulling, Taking, Writing, Counting, Source, Host, Feed, Event, Took, Told, Refused, Journal, one, latest, tally, total, judged, ticket_out, admitted, added, ops}
use Rattle.laws.specs.Machine.{State, settled_by, put, placed, tallied, without, next, state, journal}
use Rattle.laws.specs.Answers.{Counts}
use Rattle.laws.proofs.Inv.{Inv}
use Rattle.laws.proofs.Steps.{run}
use Rattle.laws.proofs.Why.{Judging, faulty, far, late, ahead, again, fresh, by-feed, Answered, ticked, took, lent, wrote, told, refused as refuse, answered}

-- one more frame with verdict u
total-more : (t : ℕ → ℕ) (u k : ℕ) → total (λ v. t v + one (eqb u v)) k ≡ total t k + one (not (eqb u 0) && leb u k)
unfolding total
total-more t u zero = elim (eqb_tells u 0) [
  | inl x ↦ rw x.0 (omega arith)
  | inr x ↦ elim (leb_tells u 0) [ inl y ↦ absurd (x.1 (omega (arith, y.1))) | inr y ↦ rw (x.0, y.0) (omega arith) ]
]
total-more t u (suc k) =
    let ih = total-more t u k in
    elim (eqb_tells u 0) [
      | inl x ↦
          let e : eqb u (suc k) ≡ false = ne_eqb u (suc k) (λ y. omega (arith, x.1)) in
          let ih' : total (λ v. t v + one (eqb u v)) k ≡ total t k + 0 = rw x.0 at ih in
          rw (x.0, e) (omega arith)
      | inr x ↦ elim (leb_tells u k) [
        | inl y ↦
            let e : eqb u (suc k) ≡ false = ne_eqb u (suc k) (λ z. omega (arith, y.1)) in
            let f : leb u (suc k) ≡ true = le-leb u (suc k) (omega (arith, y.1)) in
            let ih' : total (λ v. t v + one (eqb u v)) k ≡ total t k + 1 = rw (x.0, y.0) at ih in
            rw (x.0, e, f) (omega arith)
        | inr y ↦
            let ih' : total (λ v. t v + one (eqb u v)) k ≡ total t k + 0 = rw (x.0, y.0) at ih in
            elim (eqb_tells u (suc k)) [
              | inl z ↦ let f : leb u (suc k) ≡ true = le-leb u (suc k) (omega (arith, z.1)) in rw (x.0, z.0, f) (omega arith)
              | inr z ↦ let f : leb u (suc k) ≡ false = lt-leb u (suc k) (lt_by u k y.1 z.1) in rw (x.0, z.0, f) (omega arith)
            ]
      ]
    ]
  where
    lt_by : (u k : ℕ) → k < u → (u ≡ suc k → ⊥) → suc k < u
    lt_by u k a b = omega arith

judged-took : (J : Journal) (w : Source) (p : ℕ) (b : List ℕ) (u : ℕ) → u ≤ 30 → judged (J ▹ Took w p b u) ≡ suc (judged J)
judged-took J w p b u l =
    let m = total-more (tally J) u 30 in
    elim (eqb_tells u 0) [
      | inl x ↦ let m' : total (λ v. tally J v + one (eqb u v)) 30 ≡ total (tally J) 30 + 0 = rw x.0 at m in rw x.0 (omega arith)
      | inr x ↦ let m' : total (λ v. tally J v + one (eqb u v)) 30 ≡ total (tally J) 30 + 1 = rw (x.0, le-leb u 30 l) at m in rw x.0 (omega arith)
    ]

-- a verdict is a number up to 30
verdict-small : (g : Setting) (s : State) (q : ℕ) (o : Sort) (v : ℕ) → Judging g s q o v → v ≤ 30
verdict-small g s q o v (faulty z) = omega arith
verdict-small g s q o v (far a) = omega arith
verdict-small g s q o v (late a b) = omega arith
verdict-small g s q o v (ahead a b c) = omega arith
verdict-small g s q o v (again a b c d) = omega arith
verdict-small g s q o v (fresh a b c d) = omega arith

-- the books of a state and of a journal
pub record Books (g : Setting) (B : Behaviour) (s : State) (J : Journal) : Type 0 where
  pub feed : (o : List Op) → s.feed o ≡ B (ops g J ++ o)
  pub tally : (v : ℕ) → s.tally v ≡ tally J v
  pub judged : s.judged ≡ judged J
  pub out : s.out ≡ ticket_out J

books-placed : (g : Setting) (B : Behaviour) (J : Journal) (s : State) (q : ℕ) (b : List ℕ) (v : ℕ) (o : Sort) → Books g B s J → Books g B (placed g s q b v o) J
books-placed g B J s q b v (Fault k) h = h
books-placed g B J s q b v (Slot n) h = elim (eqb v 0) as (λ t. Books g B (cond t (settled_by g (put s q b n) n (not (is_some (s.arrived n)))) s) J) [ true ↦ record { feed = h.feed; tally = h.tally; judged = h.judged; out = h.out } | false ↦ h ]

books-tallied : (g : Setting) (B : Behaviour) (J : Journal) (s : State) (w : Source) (q : ℕ) (b : List ℕ) (v : ℕ) → v ≤ 30 → Books g B s J → Books g B (tallied s w v) (J ▹ Took w q b v)
books-tallied g B J s Host q b v l h = record { feed = h.feed; tally = λ u. ap (λ z. z + one (eqb v u)) (h.tally u); judged = ap suc h.judged ∙ sym (judged-took J Host q b v l); out = h.out }
books-tallied g B J s (Feed len) q b v l h = record { feed = λ o. h.feed (Next ∷ o) ∙ ap B (sym (append_assoc (ops g J) (Next ∷ []) o)); tally = λ u. ap (λ z. z + one (eqb v u)) (h.tally u); judged = ap suc h.judged ∙ sym (judged-took J (Feed len) q b v l); out = h.out }

books-without : (g : Setting) (B : Behaviour) (J : Journal) (s : State) (c : Call) (k : ℕ) → Books g B s J → Books g B (without s c k) (J ▹ Refused c k)
books-without g B J s (Ticking r len) k h = record { feed = h.feed; tally = h.tally; judged = h.judged; out = h.out }
books-without g B J s (Admitting q b) k h = record { feed = h.feed; tally = h.tally; judged = h.judged; out = h.out }
books-without g B J s (Pulling len) k h = record { feed = h.feed; tally = h.tally; judged = h.judged; out = h.out }
books-without g B J s Taking k h = record { feed = h.feed; tally = h.tally; judged = h.judged; out = h.out }
books-without g B J s Counting k h = record { feed = h.feed; tally = h.tally; judged = h.judged; out = h.out }
books-without g B J s (Writing n len) k h = elim (cases_Bool (eqb k 17)) [
  | inl e ↦ rw e (record { feed = h.feed; tally = h.tally; judged = h.judged; out = rw e })
  | inr e ↦ rw e (record { feed = h.feed; tally = h.tally; judged = h.judged; out = rw e h.out })
]

books-step : (g : Setting) (B : Behaviour) (s : State) (J : Journal) → Inv g s J → Books g B s J → {e : Event} → Answered g s e → Books g B (next g s e) (J ▹ e)
books-step g B s J i h (ticked r len m a b) = record {
  feed = λ o. h.feed (Tick (max r s.latest) ∷ o) ∙ ap (λ z. B (ops g J ++ (Tick (max r z) ∷ o))) i.base.latest ∙ ap B (sym (append_assoc (ops g J) (Tick (max r (latest g J)) ∷ []) o));
  tally = h.tally;
  judged = h.judged;
  out = h.out;
}
books-step g B s J i h (took w q b {o} {v} l c e j) = books-tallied g B J (placed g s q b v (g.sound q b)) w q b v (verdict-small g s q o v j) (books-placed g B J s q b v (g.sound q b) h)
books-step g B s J i h (lent e f) = record { feed = h.feed; tally = h.tally; judged = h.judged; out = refl }
books-step g B s J i h (wrote len k o l) = record { feed = h.feed; tally = h.tally; judged = h.judged; out = refl }
books-step g B s J i h told = record { feed = h.feed; tally = h.tally; judged = h.judged; out = h.out }
books-step g B s J i h (refuse {c} {k} r) = books-without g B J s c k h

total-none : (k : ℕ) → total (λ v. 0) k ≡ 0
unfolding total
total-none zero = refl
total-none (suc k) = let ih = total-none k in omega arith

pub books : (g : Setting) (B : Behaviour) (cs : Past Call) → Books g B (state g B cs) (journal g B cs)
books g B start = record { feed = λ o. refl; tally = λ v. refl; judged = let t = total-none 30 in omega arith; out = refl }
books g B (cs ▹ c) = books-step g B (state g B cs) (journal g B cs) (run g B cs) (books g B cs) (answered g (state g B cs) c)

-- what waits
pub within-length : {xs ys : List Waiting} → Within xs ys → length xs ≤ length ys
within-length within_none = omega arith
within-length (within_more h) = let l = within-length h in omega arith
within-length (within_both h) = let l = within-length h in omega arith

pub waiting : (g : Setting) (B : Behaviour) (cs : Past Call) → (state g B cs).feed [] ≡ B (ops g (journal g B cs))
waiting g B cs = (books g B cs).feed [] ∙ ap B (append-nil (ops g (journal g B cs)))

sums-step : (g : Setting) (B : Behaviour) → Lawful B → (s : State) (J : Journal) → s.feed [] ≡ B (ops g J) →
    admitted J + length (B []) + added g B J ≡ judged J + length (B (ops g J)) → {e : Event} → Answered g s e →
    admitted (J ▹ e) + length (B []) + added g B (J ▹ e) ≡ judged (J ▹ e) + length (B (ops g (J ▹ e)))
sums-step g B lw s J f h (ticked r len m a b) = let l = within-length (lw.ticked (ops g J) (max r (latest g J))) in omega arith
sums-step g B lw s J f h (took Host q b {o} {v} l c e j) = let u = judged-took J Host q b v (verdict-small g s q o v j) in omega arith
sums-step g B lw s J f h (took (Feed len) q b {o} {v} l (by-feed fs m x) e j) =
    let u = judged-took J (Feed len) q b v (verdict-small g s q o v j) in
    let y : B (ops g J) ≡ record { port = q; bytes = b } ∷ fs = sym f ∙ x in
    let z : B (ops g J ++ (Next ∷ [])) ≡ fs = lw.nexted (ops g J) ∙ ap rest y in
    omega (arith, ap length y, ap length z)
sums-step g B lw s J f h (lent e x) = h
sums-step g B lw s J f h (wrote len k o l) = h
sums-step g B lw s J f h told = h
sums-step g B lw s J f h (refuse r) = h

pub sums : (g : Setting) (B : Behaviour) (cs : Past Call) → Lawful B → admitted (journal g B cs) + length (B []) + added g B (journal g B cs) ≡ judged (journal g B cs) + length (B (ops g (journal g B cs)))
sums g B start lw = let t = total-none 30 in omega arith
sums g B (cs ▹ c) lw = sums-step g B lw (state g B cs) (journal g B cs) (waiting g B cs) (sums g B cs lw) (answered g (state g B cs) c)

pub told_is : (g : Setting) (B : Behaviour) (K : Journal) (a m : ℕ) (t : ℕ → ℕ) (s : State) → Inv g s K → Books g B s K → Answered g s (Told a m t) → Counts K a m t
told_is g B K a m t s i h told = record { accepted = h.tally 0; written = i.base.written; refused = h.tally }
