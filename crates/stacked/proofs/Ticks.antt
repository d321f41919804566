-- A tick of the concentrator, and the pulls after it, as one step of the machine.
use Rattle.std.proofs.Common.{◌≡◌, ℕ, true, false, cond, List, is_ok, Some, None, Ok, Err, Option, Result, sym, refl, ap, ◌∙◌}
use Rattle.common.specs.declared.fault.Fault.{Fault}
use Rattle.common.specs.declared.fault.Fault.TheVariants as fault
use Rattle.feed.specs.Calls.{short}
use Rattle.engine.specs.Calls as on
use Rattle.concentrator.specs.Wholes.{Whole}
use Rattle.concentrator.specs.Calls as call
use Rattle.stacked.specs.Stacks.{drained, drained_by, ticked}

module _ (w : Whole) (reading : ℕ) (scratch : List ℕ) (room : short scratch ≡ false) where
  abbrev said : Option Fault → Result ℕ Fault → Result Unit Fault
  said o t = on.unless_shut o (cond (short scratch) (Err fault.Buffer) (call.done t))

  -- ---- one that is accepted
  accepted-by : (o : Option Fault) (t : Result ℕ Fault) → w.shut ≡ o → on.tick_said w.box reading ≡ t → is_ok (said o t) ≡ true → drained (call.ticked w reading scratch) ≡ ticked w reading
  accepted-by (Some f) t p q h = absurd (cc)
  accepted-by None (Err e) p q h = let no = rw room at h in absurd (cc)
  accepted-by None (Ok l) p q h =
      let call : call.ticked w reading scratch ≡ call.ticked_by w (Ok l) = rw (p, room, q) in
      let step : ticked w reading ≡ drained_by w (Ok l) = rw (p, q) in
      ap drained call ∙ sym step

  pub accepted : is_ok (call.tick_said w reading scratch) ≡ true → drained (call.ticked w reading scratch) ≡ ticked w reading
  accepted h = accepted-by w.shut (on.tick_said w.box reading) refl refl h

  -- ---- one that is refused
  pub record Refused : Type 0 where
    pub call : call.ticked w reading scratch ≡ w
    pub step : ticked w reading ≡ w

  refused-by : (o : Option Fault) (t : Result ℕ Fault) → w.shut ≡ o → on.tick_said w.box reading ≡ t → is_ok (said o t) ≡ false → Refused
  refused-by (Some f) t p q h = record { call = rw p; step = rw p }
  refused-by None (Err e) p q h = record { call = rw (p, room, q); step = rw (p, q) }
  refused-by None (Ok l) p q h = let no = rw room at h in absurd (cc)

  pub refused : is_ok (call.tick_said w reading scratch) ≡ false → Refused
  refused h = refused-by w.shut (on.tick_said w.box reading) refl refl h
