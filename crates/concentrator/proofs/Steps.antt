-- A tick that was accepted, and a frame that was pulled, as steps of the whole.
use Rattle.std.proofs.Common.{◌≡◌, ℕ, false, cond, List, [], ◌∷◌, length, take, None, Ok, Result, sym, ap, ◌∙◌}
use Rattle.common.specs.declared.fault.Fault.{Fault}
use Rattle.feed.specs.declared.feed.Taken.{Taken}
use Rattle.feed.specs.Feeds.{Waiting, Tick, Next, Behaviour, after}
use Rattle.feed.specs.Calls.{short, tick_left}
use Rattle.feed.proofs.Nexts.{came, Nexted, Got, got}
use Rattle.engine.specs.Boxes.{Closing, Box}
use Rattle.engine.specs.Closing.{settled}
use Rattle.engine.specs.Calls as on
use Rattle.engine.specs.States.{State, with_box, left}
use Rattle.engine.specs.States as state
use Rattle.engine.proofs.Shuts.{left_open}
use Rattle.concentrator.specs.declared.calls.Pulled.{Pulled}
use Rattle.concentrator.specs.Wholes.{Whole, joined, moved}
use Rattle.concentrator.specs.Calls.{tick_said, ticked, pull_said, pull_buffer, took_first, pulled}

module _ (e e' : State) (closing : Closing) (m m' : Behaviour) (opened : e.shut ≡ None) where
  abbrev w : Whole
  w = joined e closing m

  -- the engine with another box, and another feed
  abbrev with_both : Box → Behaviour → Whole
  with_both b f = joined (with_box e b) closing f

  -- ---- an accepted tick
  module _ (reading l : ℕ) (scratch : List ℕ) (room : short scratch ≡ false) (said : Ok l ≡ state.tick_said e reading) where
    took : on.tick_said e.box reading ≡ Ok l
    took = sym (said ∙ rw opened)

    pub tick_said_lem : Ok tt ≡ tick_said w reading scratch
    tick_said_lem = rw (opened, room, took)

    pub tick-next : e' ≡ state.ticked closing e reading → m' ≡ tick_left m l scratch → joined e' closing m' ≡ ticked w reading scratch
    tick-next p q =
        let box : Box = settled closing e.setting (on.timed e.box l) in
        let engine : e' ≡ with_box e box = p ∙ (ap (λ r. left e (on.tick_by closing e.setting e.box r)) took ∙ sym (left_open e box opened)) in
        let feed : m' ≡ after m (Tick l) = q ∙ rw room in
        ap (λ (x : State). joined x closing m') engine ∙ (ap (with_both box) feed ∙ rw (opened, room, took))

  -- ---- a frame that was pulled
  module _ (buffer buffer' : List ℕ) (x : Taken) (v : Result Unit Fault) (few : on.exhausted e.box ≡ false) (n : Nexted m m' buffer buffer' x)
      (judged : v ≡ state.admit_said e x.port.0 (take x.len buffer')) (next : e' ≡ state.admitted closing e x.port.0 (take x.len buffer')) where
    pub record Pull : Type 0 where
      pub answer : Ok (record { port = x.port; len = x.len; verdict = v }) ≡ pull_said w buffer
      pub frame : buffer' ≡ pull_buffer w buffer
      pub after : joined e' closing m' ≡ pulled w buffer

    by_first : (f : Waiting) (fs : List Waiting) → short buffer ≡ false → m [] ≡ f ∷ fs → Got m m' buffer buffer' x f → Pull
    by_first f fs room waited g =
        let port = g.port in
        let front = g.front in
        let box : Box = on.received closing e.setting e.box f.port f.bytes in
        let verdict : v ≡ on.verdict_of (on.judge e.setting e.box f.port f.bytes) =
        judged ∙ (rw (opened, few) (ap (λ q. on.verdict_of (on.judge e.setting e.box q (take x.len buffer'))) port ∙ ap (λ bs. on.verdict_of (on.judge e.setting e.box f.port bs)) front)) in
        let engine : e' ≡ with_box e box =
        next
        ∙ (ap (λ a. left e (cond a e.box (on.received closing e.setting e.box x.port.0 (take x.len buffer')))) few
        ∙ (ap (λ q. left e (on.received closing e.setting e.box q (take x.len buffer'))) port
        ∙ (ap (λ bs. left e (on.received closing e.setting e.box f.port bs)) front ∙ sym (left_open e box opened)))) in
        let len = g.len in
        let tell : ℕ → ℕ → Result Unit Fault → Result Pulled Fault = λ q l u. Ok (record { port = record { 0 = q }; len = l; verdict = u }) in
        let took_it : pulled w buffer ≡ moved w box (after m Next) =
        ap (λ o. on.if_open o w (cond (short buffer) w (cond (on.exhausted e.box) w (took_first w (m []))))) opened ∙ rw (room, few, waited) in
        record {
          answer =
              rw (opened, room, few, waited)
              (ap (λ q. tell q x.len v) port ∙ (ap (λ l. tell f.port l v) len ∙ ap (tell f.port (length f.bytes)) verdict));
          frame = n.frame ∙ rw (opened, room, few);
          after = ap (λ (y : State). joined y closing m') engine ∙ (ap (with_both box) g.left ∙ sym took_it);
        }

    pub pull_steps : Pull
    pull_steps =
        let c = came (m []) buffer x n.answer in by_first c.first c.others c.room c.waited (got m m' buffer buffer' x n c)
