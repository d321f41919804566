-- A concentrator under another is a lawful feed.
use Rattle.std.specs.Prelude.{◌≡◌, ℕ, ◌≤◌, []}
use Rattle.std.proofs.Common.{sym, ap, ◌∙◌, subst, inl, inr}
use Rattle.feed.specs.Feeds.{Op, Tick, Next, rest, Lawful}
use Rattle.feed.specs.Machines.{Steps, machine_lawful}
use Rattle.concentrator.specs.Wholes.{Whole}
use Rattle.stacked.specs.Stacks.{step, waits, stacked}
use Rattle.stacked.specs.Later.{later_ticked}
use Rattle.stacked.specs.Reaches.{Reached, later-reached}
use Rattle.stacked.specs.Ready.{waits_within, waits_carried}
use Rattle.stacked.specs.Writes.{lends_or_refuses, step_lends, step_refuses, first_waits, more_wait, written_reached}

-- a step leads from a state that can be reached to one that can be
stays : (w : Whole) (o : Op) → Reached w → Reached (step w o)
stays w (Tick reading) r = later-reached (later_ticked w reading) r
stays w Next r =
    elim (lends_or_refuses w r) [
      | inl l ↦ subst Reached (sym (step_lends w r l)) (written_reached w r)
      | inr u ↦ subst Reached (sym (step_refuses w r u)) r
    ]

module _ (port : ℕ) where
  -- after a next the first frame that waited is gone
  nexted : (w : Whole) → Reached w → waits port (step w Next) ≡ rest (waits port w)
  nexted w r =
      elim (lends_or_refuses w r) [
        | inl l ↦ ap (waits port) (step_lends w r l) ∙ (more_wait w r port l ∙ ap rest (sym (first_waits w r port l)))
        | inr u ↦ ap (waits port) (step_refuses w r u) ∙ (u.empty port ∙ ap rest (sym (u.empty port)))
      ]

  -- a next with nothing waiting changes nothing
  idle : (w : Whole) → Reached w → waits port w ≡ [] → step w Next ≡ w
  idle w r e =
      elim (lends_or_refuses w r) [
        | inl l ↦ (let f = first_waits w r port l in absurd (cc))
        | inr u ↦ step_refuses w r u
      ]

  -- the steps of a concentrator under another are those of a lawful feed
  steps : port ≤ 15 → Steps step (waits port) Reached
  steps line =
      record {
        stays = stays;
        ticked = λ w reading r. waits_within port (later_ticked w reading);
        nexted = nexted;
        idle = idle;
        carried = λ w r. waits_carried port w line r;
      }

  -- a concentrator that stands under another is a lawful feed of its line
  pub stacked-lawful : (w : Whole) → port ≤ 15 → Reached w → Lawful (stacked port w)
  stacked-lawful w line r = machine_lawful step (waits port) Reached (steps line) w r
