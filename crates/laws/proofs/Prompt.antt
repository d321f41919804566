-- A host that writes each closed slot before a frame is taken never meets 22.
use Rattle.std.proofs.Common.{◌≡◌, ℕ, ◌+◌, ◌<◌, ◌≤◌, eqb, List, refl, inl, inr, arith}
use Rattle.std.proofs.lemmas.Bool.{cases_lt, leb-false, ne_eqb}
use Rattle.laws.specs.Setting.{Setting, Sort}
use Rattle.feed.specs.Feeds.{Behaviour}
use Rattle.laws.specs.Journal.{Past, start, ◌▹◌, ◌≼◌, all, more, Call, Source, Event, Took, Journal, one, Closed, writes, tally}
use Rattle.laws.specs.Machine.{State, oldest, event, state, journal}
use Rattle.laws.specs.Laws.{PromptHost}
use Rattle.laws.proofs.Inv.{Inv}
use Rattle.laws.proofs.Steps.{run}
use Rattle.laws.proofs.Why.{Judging, faulty, far, late, ahead, again, fresh, Answered, ticked, took, lent, wrote, told, refused, answered}

module _ (g : Setting) (s : State) (J : Journal) (i : Inv g s J) where
  -- with all closed slots written the front is the oldest, and nothing is 32 ahead of it
  near-front : ((n : ℕ) → Closed g J n → n < g.first + writes J) → (n : ℕ) → g.stamp n ≤ s.latest + 100000 → n < oldest g s + 32
  near-front wr n near = elim (cases_lt (oldest g s) s.front) [
    | inl l ↦
        let c = wr (oldest g s) (i.base.closes (oldest g s) (omega arith) l) in
        let no : ⊥ = omega (arith, i.base.written) in absurd no
    | inr l ↦
        let u = leb-false (g.closing (g.stamp s.front) (s.arrived s.front)) s.latest (i.unripe s.front (omega arith)) in
        let w = g.within (g.stamp s.front) (s.arrived s.front) in
        let f = g.spread s.front n (omega arith) in
        omega arith
  ]

  no22 : {e : Event} → Answered g s e → ((p : ℕ) (w : Source) (b : List ℕ) (v : ℕ) → e ≡ Took w p b v → (n : ℕ) → Closed g J n → n < g.first + writes J) → tally J 22 ≡ 0 → tally (J ▹ e) 22 ≡ 0
  no22 (ticked r len m a b) wr z = z
  no22 (lent e f) wr z = z
  no22 (wrote len k o l) wr z = z
  no22 told wr z = z
  no22 (refused r) wr z = z
  no22 (took w p b {o} {v} l c e j) wr z = go o v j (wr p w b v refl)
    where
      go : (o : Sort) (v : ℕ) → Judging g s p o v → ((n : ℕ) → Closed g J n → n < g.first + writes J) → tally J 22 + one (eqb v 22) ≡ 0
      go o v (faulty k) h = rw (ne_eqb v 22 (λ y. omega arith)) (omega arith)
      go o v (far a) h = omega arith
      go o v (late a b) h = omega arith
      go o v (ahead {n} near up a) h = let x = near-front h n near in let no : ⊥ = omega arith in absurd no
      go o v (again a b c d) h = omega arith
      go o v (fresh a b c d) h = omega arith

pub prompt : (g : Setting) (B : Behaviour) (cs : Past Call) → PromptHost g (journal g B cs) → tally (journal g B cs) 22 ≡ 0
prompt g B start h = refl
prompt g B (cs ▹ c) h =
    let s = state g B cs in
    let J = journal g B cs in
    no22 g s J (run g B cs) (answered g s c) (λ p w b v e. h J w p b v (at e)) (prompt g B cs (λ K w p b v l. h K w p b v (more l)))
  where
    at : {e : Event} → event g (state g B cs) c ≡ e → journal g B cs ▹ e ≼ journal g B (cs ▹ c)
    at e = rw (← e) all
