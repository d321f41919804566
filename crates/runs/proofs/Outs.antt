-- Which calls change the ticket that is out.
use Rattle.std.proofs.Common.{◌≡◌, ℕ, ◌+◌, Bool, true, false, cond, eqb, ltb, List, [], ◌∷◌, length, Some, None, Ok, Err, IsErr, Option, Result, sym, refl, ap, ◌∙◌, arith}
use Rattle.common.specs.declared.fault.Fault.{Fault}
use Rattle.common.specs.declared.fault.Fault.TheVariants as fault
use Rattle.feed.specs.Feeds.{Waiting}
use Rattle.sample.specs.Samples.{SampleOf}
use Rattle.combined.specs.Frames.{slot_length}
use Rattle.engine.specs.Boxes as E
use Rattle.engine.specs.Calls as K
use Rattle.concentrator.specs.declared.ticket.Ticket.{Ticket}
use Rattle.concentrator.specs.Wholes.{Whole, moved}
use Rattle.concentrator.specs.Calls as Q
use Rattle.runs.specs.Tickets.{out_of, ticket_out, held_after}

-- a call on a shut concentrator changes nothing
unless-open : (s : Option Fault) (w x : Whole) → ticket_out x ≡ ticket_out w → ticket_out (K.if_open s w x) ≡ ticket_out w
unless-open (Some f) w x e = refl
unless-open None w x e = e

choice-out : (b : Bool) (w x : Whole) → ticket_out x ≡ ticket_out w → ticket_out (cond b w x) ≡ ticket_out w
choice-out true w x e = refl
choice-out false w x e = e

module _ (w : Whole) where
  placed-out : (q : ℕ) (r : Result SampleOf Fault) → (K.placed w.closing w.setting w.box q r).out ≡ w.box.out
  placed-out q (Ok x) = refl
  placed-out q (Err f) = refl

  taken-out : (q : ℕ) (b : List ℕ) → (K.received w.closing w.setting w.box q b).out ≡ w.box.out
  taken-out q b = placed-out q (K.judge w.setting w.box q b)

  timed-out : (r : Result ℕ Fault) → ticket_out (Q.ticked_by w r) ≡ ticket_out w
  timed-out (Ok l) = refl
  timed-out (Err f) = refl

  pub tick-out : (r : ℕ) (scratch : List ℕ) → ticket_out (Q.ticked w r scratch) ≡ ticket_out w
  tick-out r scratch =
      unless-open w.shut w _
      (choice-out (ltb (length scratch) 1040) w (Q.ticked_by w (K.tick_said w.box r)) (timed-out (K.tick_said w.box r)))

  exhausted-out : (b : Bool) (x : E.Box) → x.out ≡ w.box.out → out_of w.shut (cond b w.box x).out ≡ ticket_out w
  exhausted-out true x e = refl
  exhausted-out false x e = ap (out_of w.shut) e

  pub admit-out : (q : ℕ) (b : List ℕ) → ticket_out (Q.admitted w q b) ≡ ticket_out w
  admit-out q b = unless-open w.shut w _ (exhausted-out (K.exhausted w.box) _ (taken-out q b))

  first-out : (fs : List Waiting) → ticket_out (Q.took_first w fs) ≡ ticket_out w
  first-out [] = refl
  first-out (f ∷ fs) = ap (out_of w.shut) (taken-out f.port f.bytes)

  pub pull-out : (buffer : List ℕ) → ticket_out (Q.pulled w buffer) ≡ ticket_out w
  pull-out buffer =
      unless-open w.shut w _
      (choice-out (ltb (length buffer) 1040) w _ (choice-out (K.exhausted w.box) w _ (first-out (w.feed []))))

-- ---- take
no-error : (k : ℕ) (f : Fault) → ◌≡◌ {A = Result ℕ Fault} (Ok k) (Err f) → ⊥
no-error k f e = let z : ◌≡◌ {A = ℕ} 0 1 = cc in omega arith

taken-by : (g : E.Setting) (b : E.Box) (k : ℕ) (u : Option ℕ) → Ok k ≡ K.take_by g b u → (u ≡ None) × ((K.lent_by b (K.take_by g b u)).out ≡ Some k)
taken-by g b k (Some n) e = absurd (no-error k fault.TicketOut e)
taken-by g b k None e = go (ltb (g.first + b.written) b.front) e
  where
    go : (t : Bool) → Ok k ≡ cond t (Ok (g.first + b.written)) (Err fault.NoneClosed) → (◌≡◌ {A = Option ℕ} None None) × ((K.lent_by b (cond t (Ok (g.first + b.written)) (Err fault.NoneClosed))).out ≡ Some k)
    go true e = let same : g.first + b.written ≡ k = cc in (refl, ap Some same)
    go false e = absurd (no-error k fault.NoneClosed e)

taken-open : (s : Option Fault) (w : Whole) (k : ℕ) → Ok k ≡ K.unless_shut s (K.take_said w.setting w.box) → (out_of s w.box.out ≡ None) × (out_of s (K.lent w.setting w.box).out ≡ Some k)
taken-open (Some f) w k e = absurd (no-error k f e)
taken-open None w k e = taken-by w.setting w.box k w.box.out e

lent-is : (s : Option Fault) (w : Whole) (k : ℕ) → w.shut ≡ s → out_of s (K.lent w.setting w.box).out ≡ Some k → ticket_out (K.if_open s w (moved w (K.lent w.setting w.box) w.feed)) ≡ Some k
lent-is (Some f) w k is e = absurd (let z : ◌≡◌ {A = ℕ} 0 1 = cc in omega arith)
lent-is None w k is e = ap (λ s. out_of s (K.lent w.setting w.box).out) is ∙ e

-- a take that hands out a ticket has none out before, and that one after
pub take-out : (w : Whole) (k : ℕ) → Ok k ≡ Q.take_said w → (ticket_out w ≡ None) × (ticket_out (Q.lent w) ≡ Some k)
take-out w k e =
    let t = taken-open w.shut w k e in
    (t.0, lent-is w.shut w k refl t.1)

-- a take that is refused leaves what was out
pub refused-out : (w : Whole) (r : Result Ticket Fault) → Q.number_by r ≡ Q.take_said w → IsErr r → ticket_out (Q.lent w) ≡ ticket_out w
refused-out w (Ok x) e h = absurd (let z : ◌≡◌ {A = ℕ} 0 1 = cc in omega arith)
refused-out w (Err f) e h = go w.shut (K.take_said w.setting w.box) e
  where
    go : (s : Option Fault) (r : Result ℕ Fault) → Err f ≡ K.unless_shut s r → ticket_out (K.if_open s w (moved w (K.lent_by w.box r) w.feed)) ≡ ticket_out w
    go (Some z) r e = refl
    go None (Ok k) e = absurd (no-error k f (sym e))
    go None (Err z) e = refl

-- ---- write
wrote-by : (g : E.Setting) (b : E.Box) (n room : ℕ) (u : Option ℕ) → b.out ≡ u → (cond (K.is_out u n) (cond (ltb room (slot_length g.ports)) (K.with_ticket b None) (K.cleared b n)) b).out ≡ held_after u n
wrote-by g b n room None e = e
wrote-by g b n room (Some k) e = go (eqb k n) (ltb room (slot_length g.ports))
  where
    go : (t r : Bool) → (cond t (cond r (K.with_ticket b None) (K.cleared b n)) b).out ≡ cond t None (Some k)
    go true true = refl
    go true false = refl
    go false r = e

-- a write spends the ticket of its number, if that is out
pub write-out : (w : Whole) (n room : ℕ) → ticket_out (Q.wrote w n room) ≡ held_after (ticket_out w) n
write-out w n room = go w.shut refl
  where
    go : (s : Option Fault) → w.shut ≡ s → ticket_out (K.if_open s w (moved w (K.wrote_by w.setting w.box n room) w.feed)) ≡ held_after (ticket_out w) n
    go (Some f) e = ap (λ s. out_of s w.box.out) e ∙ ap (λ o. held_after o n) (sym (ap (λ s. out_of s w.box.out) e))
    go None e =
        ap (λ s. out_of s (K.wrote_by w.setting w.box n room).out) e
        ∙ (wrote-by w.setting w.box n room w.box.out refl ∙ ap (λ o. held_after o n) (sym (ap (λ s. out_of s w.box.out) e)))
