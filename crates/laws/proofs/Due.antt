-- Each call of a run answers what is due.
use Rattle.std.proofs.Common.{◌≡◌, ℕ, ◌+◌, ◌≤◌, List, sym, refl, ap, ◌∙◌, subst, inl, inr, arith}
use Rattle.std.proofs.lemmas.Bool.{cases_lt}
use Rattle.laws.specs.Setting.{Setting, Sort}
use Rattle.feed.specs.Feeds.{Behaviour}
use Rattle.laws.specs.Journal.{Past, start, ◌▹◌, Call, Source, Event, Lent, Refused, writes}
use Rattle.laws.specs.Answers.{Open, Verdict, From, Due, Right}
use Rattle.laws.specs.Answers
use Rattle.laws.specs.Machine.{state, journal}
use Rattle.laws.proofs.Inv.{framed}
use Rattle.laws.proofs.Steps.{run}
use Rattle.laws.proofs.Order.{closed-below}
use Rattle.laws.proofs.Account.{books, waiting, told_is}
use Rattle.laws.proofs.Why

module _ (g : Setting) (B : Behaviour) (cs : Past Call) where
  -- from the front on, slots are open
  open_from : (n : ℕ) → (state g B cs).front ≤ n → Open g (journal g B cs) n
  open_from n up =
      let i = run g B cs in
      (omega (arith, i.base.low), λ c. let l = closed-below g B c cs refl in omega arith)

  verdict : (q : ℕ) {o : Sort} {v : ℕ} → Why.Judging g (state g B cs) q o v → Verdict g (journal g B cs) q o v
  verdict q (Why.faulty z) = Answers.unsound
  verdict q (Why.far {n} a) = Answers.early (rw (run g B cs).base.latest at a)
  verdict q (Why.late {n} near a) = Answers.late (rw (run g B cs).base.latest at near)
      (elim (cases_lt n g.first) [ inl l ↦ inl l | inr l ↦ inr ((run g B cs).base.closes n l a) ])
  verdict q (Why.ahead {n} near up a) = Answers.ahead (rw (run g B cs).base.latest at near) (open_from n up) (rw (run g B cs).base.written at a)
  verdict q (Why.again {n} near up below a) = Answers.again (rw (run g B cs).base.latest at near) (open_from n up) (rw (run g B cs).base.written at below) (rw ((run g B cs).base.held n q (omega (arith, (run g B cs).base.low))) at a)
  verdict q (Why.fresh {n} near up below a) = Answers.fresh (rw (run g B cs).base.latest at near) (open_from n up) (rw (run g B cs).base.written at below) (rw ((run g B cs).base.held n q (omega (arith, (run g B cs).base.low))) at a)

  came : {w : Source} {q : ℕ} {b : List ℕ} → Why.Came (state g B cs) w q b → From g B (journal g B cs) w q b
  came Why.by-host = Answers.host
  came (Why.by-feed fs m e) = Answers.feed fs m (sym (waiting g B cs) ∙ e)

  refusing : {c : Call} {k : ℕ} → Why.Refusing g (state g B cs) c k → Due g B (journal g B cs) (Refused c k)
  refusing (Why.tick-short m) = Answers.tick-short m
  refusing (Why.large {r} m a) = Answers.tick-large m (rw (run g B cs).base.latest at a)
  refusing (Why.much l) = Answers.admit_full (rw (books g B cs).judged at l)
  refusing (Why.pull_short m) = Answers.pull_short m
  refusing (Why.most m l) = Answers.pull_full m (rw (books g B cs).judged at l)
  refusing (Why.dry m l e) = Answers.pull_dry m (rw (books g B cs).judged at l) (sym (waiting g B cs) ∙ e)
  refusing (Why.lent_out e) = Answers.lend-out (sym (books g B cs).out ∙ e)
  refusing (Why.none-closed e l) = Answers.lend_open (sym (books g B cs).out ∙ e)
      (λ c. let f = closed-below g B c cs refl in omega (arith, (run g B cs).base.written))
  refusing (Why.short e l) = Answers.write-short (sym (books g B cs).out ∙ e) l
  refusing (Why.not_out e) = Answers.write_not_out (λ o. e ((books g B cs).out ∙ o))

  due : {e : Event} → Why.Answered g (state g B cs) e → Due g B (journal g B cs) e
  due (Why.ticked r len m a b) = Answers.tick m a (rw (run g B cs).base.latest at b)
  due (Why.took w q b {o} {v} l c e j) = Answers.frame (rw (books g B cs).judged at l) (came c) (verdict q (subst (λ (z : Sort). Why.Judging g (state g B cs) q z v) (sym e) j))
  due (Why.lent e f) =
      let i = run g B cs in
      let o : g.first + (state g B cs).written ≡ g.first + writes (journal g B cs) = ap (λ z. g.first + z) i.base.written in
      subst (λ (k : ℕ). Due g B (journal g B cs) (Lent k)) (sym o) (Answers.lend (sym (books g B cs).out ∙ e) (i.base.closes (g.first + writes (journal g B cs)) (omega arith) (omega arith)))
  due (Why.wrote len k o l) = Answers.write (sym (books g B cs).out ∙ o) l (framed g (state g B cs) (journal g B cs) (run g B cs).base k (omega (arith, ((run g B cs).base.out k o).0)))
  due Why.told = Answers.counts (told_is g B (journal g B cs) ((state g B cs).tally 0) (state g B cs).written (state g B cs).tally (state g B cs) (run g B cs) (books g B cs) Why.told)
  due (Why.refused r) = refusing r

-- the machine's journal of any calls is right
pub right : (g : Setting) (B : Behaviour) (cs : Past Call) → Right g B (journal g B cs)
right g B start = Answers.nothing
right g B (cs ▹ c) = Answers.more-due (right g B cs) (due g B cs (Why.answered g (state g B cs) c))
