-- What is due is decided: every right journal is the machine's.
use Rattle.std.proofs.Common.{◌≡◌, ℕ, ◌+◌, ◌<◌, ◌≤◌, false, ltb, ◌⊎◌, List, Some, Option, sym, refl, ap, ◌∙◌, subst, inl, inr, arith}
use mathlib.Core.Path.{fun_ext}
use Rattle.std.proofs.lemmas.Bool.{cases_lt, cases_Bool, lt-ltb, le-ltb, le-leb, lt-leb, eq-eqb, or_right}
use Rattle.laws.specs.Setting.{Setting, Sort}
use Rattle.feed.specs.Feeds.{Behaviour}
use Rattle.laws.specs.Journal.{Past, start, ◌▹◌, Call, Ticking, Admitting, Pulling, Taking, Writing, Counting, Source, Host, Feed, Event, Ticked, Took, Lent, Wrote, Told, Refused, Journal, Closed, judged}
use Rattle.laws.specs.Answers.{Open, Verdict, From, Due, Right}
use Rattle.laws.specs.Answers
use Rattle.laws.specs.Machine.{judge_in, judge, limit, pulls, is_out, event, state, journal}
use Rattle.laws.proofs.Inv.{framed}
use Rattle.laws.proofs.Steps.{run}
use Rattle.laws.proofs.Order.{closed-below}
use Rattle.laws.proofs.Account.{books, waiting}
use Rattle.laws.proofs.Why.{out_is}

-- the call of an event
abbrev call_of : Event → Call
call_of (Ticked r len) = Ticking r len
call_of (Took Host q b v) = Admitting q b
call_of (Took (Feed len) q b v) = Pulling len
call_of (Lent k) = Taking
call_of (Wrote len n x) = Writing n len
call_of (Told a m t) = Counting
call_of (Refused c k) = c

is_out_not : (o : Option ℕ) (k : ℕ) → (o ≡ Some k → ⊥) → is_out o k ≡ false
is_out_not o k h = elim (cases_Bool (is_out o k)) [ inl e ↦ absurd (h (out_is o k e)) | inr e ↦ e ]

module _ (g : Setting) (B : Behaviour) (cs : Past Call) where
  front-from : (n : ℕ) → Open g (journal g B cs) n → (state g B cs).front ≤ n
  front-from n o = elim (cases_lt n (state g B cs).front) [ inl l ↦ absurd (o.1 ((run g B cs).base.closes n o.0 l)) | inr l ↦ l ]

  below-front : (n : ℕ) → (n < g.first) ⊎ Closed g (journal g B cs) n → n < (state g B cs).front
  below-front n (inl l) = omega (arith, (run g B cs).base.low)
  below-front n (inr c) = closed-below g B c cs refl

  verdict_is : (q : ℕ) {o : Sort} {v : ℕ} → Verdict g (journal g B cs) q o v → judge_in g (state g B cs) q o ≡ v
  verdict_is q Answers.unsound = refl
  verdict_is q (Answers.early {n} a) = rw (lt-ltb ((state g B cs).latest + 100000) (g.stamp n) (rw (run g B cs).base.latest a))
  verdict_is q (Answers.late {n} near c) = rw (le-ltb ((state g B cs).latest + 100000) (g.stamp n) (rw (run g B cs).base.latest near), lt-ltb n (state g B cs).front (below-front n c))
  verdict_is q (Answers.ahead {n} near o a) = rw (le-ltb ((state g B cs).latest + 100000) (g.stamp n) (rw (run g B cs).base.latest near), le-ltb n (state g B cs).front (front-from n o), le-leb (g.first + (state g B cs).written + 32) n (rw (run g B cs).base.written a))
  verdict_is q (Answers.again {n} near o l a) = rw (le-ltb ((state g B cs).latest + 100000) (g.stamp n) (rw (run g B cs).base.latest near), le-ltb n (state g B cs).front (front-from n o), lt-leb (g.first + (state g B cs).written + 32) n (rw (run g B cs).base.written l), (run g B cs).base.held n q (omega (arith, front-from n o, (run g B cs).base.low)), a)
  verdict_is q (Answers.fresh {n} near o l a) = rw (le-ltb ((state g B cs).latest + 100000) (g.stamp n) (rw (run g B cs).base.latest near), le-ltb n (state g B cs).front (front-from n o), lt-leb (g.first + (state g B cs).written + 32) n (rw (run g B cs).base.written l), (run g B cs).base.held n q (omega (arith, front-from n o, (run g B cs).base.low)), a)

  took_is : {w : Source} {q : ℕ} {b : List ℕ} {v : ℕ} → judged (journal g B cs) < limit → From g B (journal g B cs) w q b → judge g (state g B cs) q b ≡ v → event g (state g B cs) (call_of (Took w q b v)) ≡ Took w q b v
  took_is {w} {q} {b} {v} l Answers.host e = rw (lt-leb limit (state g B cs).judged (rw (books g B cs).judged l)) (ap (Took Host q b) e)
  took_is {w} {q} {b} {v} l (Answers.feed {len} fs m f) e = rw (le-ltb len 1040 m, lt-leb limit (state g B cs).judged (rw (books g B cs).judged l)) (ap (pulls g (state g B cs) len) (waiting g B cs ∙ f) ∙ ap (Took (Feed len) q b) e)

  decided : {e : Event} → Due g B (journal g B cs) e → event g (state g B cs) (call_of e) ≡ e
  decided (Answers.tick {r} {len} m a b) = rw (le-ltb len 1040 m, le-ltb 4000000000000000 r a, le-ltb ((state g B cs).latest + 60000000) r (rw (run g B cs).base.latest b))
  decided (Answers.tick-short {r} {len} m) = rw (lt-ltb len 1040 m)
  decided (Answers.tick-large {r} {len} m (inl a)) = rw (le-ltb len 1040 m, lt-ltb 4000000000000000 r a)
  decided (Answers.tick-large {r} {len} m (inr a)) = rw (le-ltb len 1040 m, or_right (ltb 4000000000000000 r) (ltb ((state g B cs).latest + 60000000) r) (lt-ltb ((state g B cs).latest + 60000000) r (rw (run g B cs).base.latest a)))
  decided (Answers.frame {w} {q} {b} {v} l f d) = took_is l f (verdict_is q d)
  decided (Answers.admit_full {q} {b} l) = rw (le-leb limit (state g B cs).judged (rw (books g B cs).judged l))
  decided (Answers.pull_short {len} m) = rw (lt-ltb len 1040 m)
  decided (Answers.pull_full {len} m l) = rw (le-ltb len 1040 m, le-leb limit (state g B cs).judged (rw (books g B cs).judged l))
  decided (Answers.pull_dry {len} m l f) = rw (le-ltb len 1040 m, lt-leb limit (state g B cs).judged (rw (books g B cs).judged l)) (ap (pulls g (state g B cs) len) (waiting g B cs ∙ f))
  decided (Answers.lend o c) = rw ((books g B cs).out, o, lt-ltb (g.first + (state g B cs).written) (state g B cs).front (rw (run g B cs).base.written (closed-below g B c cs refl))) (ap (λ z. Lent (g.first + z)) (run g B cs).base.written)
  decided (Answers.lend-out {k} o) = rw ((books g B cs).out, o)
  decided (Answers.lend_open o c) = rw ((books g B cs).out, o, le-ltb (g.first + (state g B cs).written) (state g B cs).front (front-from (g.first + (state g B cs).written) (omega arith, rw (run g B cs).base.written c)))
  decided (Answers.write {len} {k} {x} o l h) = rw ((books g B cs).out, o, eq-eqb k k refl, le-ltb len g.size l) (ap (Wrote len k) (framed g (state g B cs) (journal g B cs) (run g B cs).base k (omega (arith, ((run g B cs).base.out k ((books g B cs).out ∙ o)).0)) ∙ sym h))
  decided (Answers.write-short {k} {len} o l) = rw ((books g B cs).out, o, eq-eqb k k refl, lt-ltb len g.size l)
  decided (Answers.write_not_out {k} {len} o) = rw (is_out_not (state g B cs).out k (λ e. o (sym (books g B cs).out ∙ e)))
  decided (Answers.counts {a} {m} {t} h) =
      let x : (state g B cs).tally ≡ t = fun_ext (λ v. (books g B cs).tally v ∙ sym (h.refused v)) in
      let y : (state g B cs).tally 0 ≡ a = (books g B cs).tally 0 ∙ sym h.accepted in
      let z : (state g B cs).written ≡ m = (run g B cs).base.written ∙ sym h.written in
      rw (y, z, x)

pub every : (g : Setting) (B : Behaviour) {J : Journal} → Right g B J → (cs : Past Call) × (J ≡ journal g B cs)
every g B Answers.nothing = (start, refl)
every g B (Answers.more-due {J} {e} r d) =
    let h = every g B r in
    let c = decided g B h.0 (subst (λ (K : Journal). Due g B K e) h.1 d) in
    (h.0 ▹ call_of e, cc)
