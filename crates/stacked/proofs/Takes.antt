-- A take, and the write after it, as one step of the machine.
use Rattle.std.proofs.Common.{is_ok, ◌≡◌, ℕ, ◌≤◌, false, List, length, Ok, Err, Result, sym, ap, ◌∙◌, subst, inl, inr, ltb-false}
use Rattle.common.specs.declared.fault.Fault.{Fault}
use Rattle.common.specs.declared.fault.Fault.TheVariants.{NothingWaits}
use Rattle.fields.specs.Fields.{over, left_by}
use Rattle.combined.specs.Frames.{slot_length}
use Rattle.feed.specs.declared.feed.Taken.{Taken}
use Rattle.feed.specs.Calls.{short, pick, first_taken, first_over}
use Rattle.feed.specs.Feeds.{Next, after}
use Rattle.concentrator.specs.Wholes.{Whole}
use Rattle.concentrator.specs.Calls as call
use Rattle.stacked.specs.Stacks.{waits, stacked}
use Rattle.stacked.specs.Lengths.{frame-length}
use Rattle.stacked.specs.Reaches.{Reached}
use Rattle.stacked.specs.Writes.{Lends, Refuses, lends_or_refuses, wrote-next, write-said, step_lends, first_waits, oldest_of, lent as with_lent, written, written_reached}

module _ (port : ℕ) (w : Whole) (r : Reached w) (b : List ℕ) (room : short b ≡ false) where
  -- what the first frame that waits tells: the answer, the buffer, and what is left of the concentrator
  pub record Nexts (a : Result Taken Fault) (b' : List ℕ) (v : Whole) : Type 0 where
    pub answer : a ≡ first_taken (waits port w)
    pub frame : b' ≡ first_over (waits port w) b
    pub left : stacked port v ≡ pick (waits port w) (after (stacked port w) Next) (stacked port w)
    pub shut : v.shut ≡ w.shut

  -- ---- no slot is lent
  refuses : (e : Fault) → Err e ≡ call.take_said w → Refuses w
  refuses e s = elim (lends_or_refuses w r) [ inl l ↦ (let t = l.said in absurd (cc)) | inr u ↦ u ]

  pub none_lent : (e : Fault) (v : Whole) → Err e ≡ call.take_said w → v ≡ call.lent w → Nexts (Err NothingWaits) b v
  none_lent e v s q =
      let u = refuses e s in
      let none = u.empty port in
      record {
        answer = rw none;
        frame = rw none;
        left = ap (stacked port) (q ∙ u.left) ∙ rw none;
        shut = ap (λ (x : Whole). x.shut) (q ∙ u.left);
      }

  -- the same, by an answer of `take` that is no ticket
  pub none_by : (a : Result ℕ Fault) (v : Whole) → is_ok a ≡ false → a ≡ call.take_said w → v ≡ call.lent w → Nexts (Err NothingWaits) b v
  none_by (Err e) v h s q = none_lent e v s q
  none_by (Ok n) v h s q = absurd (cc)

  -- ---- a slot is lent
  module _ (n : ℕ) (said : Ok n ≡ call.take_said w) where
    lends : Lends w
    lends = elim (lends_or_refuses w r) [ inl l ↦ l | inr u ↦ (let t = u.said in absurd (cc)) ]

    number : n ≡ oldest_of w
    number = let t = lends.said in cc

    enough : 1040 ≤ length b
    enough = ltb-false (length b) 1040 room

    module _ (u : Whole) (lent : u ≡ call.lent w) where
      fits : call.write_said u n (length b) ≡ Ok (slot_length w.setting.ports)
      fits =
          ap (λ (x : Whole). call.write_said x n (length b)) (lent ∙ lends.left)
          ∙ (ap (λ k. call.write_said (with_lent w) k (length b)) number ∙ write-said w r (length b) enough lends)

      -- there is room for its frame
      pub not_refused : (e : Fault) → Err e ≡ call.write_said u n (length b) → ⊥
      not_refused e s = let t = fits in cc

      -- the write leaves the slot written
      with_ticket : u ≡ with_lent w
      with_ticket = lent ∙ lends.left

      wrote : (v : Whole) → v ≡ call.wrote u n (length b) → v ≡ written w
      wrote v q =
          q ∙ (ap (λ (x : Whole). call.wrote x n (length b)) with_ticket
          ∙ (ap (λ k. call.wrote (with_lent w) k (length b)) number ∙ wrote-next w r (length b) enough lends))

      pub wrote_reached : (v : Whole) → v ≡ call.wrote u n (length b) → Reached v
      wrote_reached v q = subst Reached (sym (wrote v q)) (written_reached w r)

      pub one_lent : (len : ℕ) (b' : List ℕ) (v : Whole) → Ok len ≡ call.write_said u n (length b) → b' ≡ left_by (Ok len) (call.frame_of u n) b → v ≡ call.wrote u n (length b) → Nexts (Ok (record { port = record { 0 = port }; len = len })) b' v
      one_lent len b' v s p q =
          let o = oldest_of w in
          let first = first_waits w r port lends in
          let fit = fits in
          let long : len ≡ slot_length w.setting.ports = cc in
          let bytes : call.frame_of u n ≡ call.frame_of w o = ap (λ (x : Whole). call.frame_of x n) with_ticket ∙ ap (call.frame_of w) number in
          let after : v ≡ written w = wrote v q in
          record {
            answer =
                rw first
                (ap (λ l. Ok (record { port = record { 0 = port }; len = l })) (long ∙ sym (frame-length w.setting.id w.setting.rate o w.setting.ports (w.box.held o) (r.fits.slot o))));
            frame = rw first (p ∙ ap (λ bs. over bs b) bytes);
            left = rw first (ap (stacked port) (after ∙ sym (step_lends w r lends)));
            shut = ap (λ (x : Whole). x.shut) after;
          }
