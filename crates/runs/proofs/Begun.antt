-- A concentrator that opens begins a run.
use Rattle.std.proofs.Common.{◌≡◌, ℕ, refl, sym, subst}
use Rattle.plan.specs.Plans.{PlanOf}
use Rattle.feed.specs.Feeds.{Meaning}
use Rattle.engine.specs.Boxes.{Closing}
use Rattle.concentrator.specs.Wholes.{Whole, begins}
use Rattle.laws.specs.Journal.{start}
use Rattle.runs.specs.Opens.{Opens}
use Rattle.runs.specs.Standing.{Opening, Reached, opened, JustOpened}

pub just-opened : (p : PlanOf) (closing : Closing) (bound reading : ℕ) (m : Meaning) (w : Whole)
    → Opens p closing bound reading → w ≡ begins p reading closing m.waits → JustOpened p closing bound reading m.waits w
just-opened p closing bound reading m w opens is =
    let o : Opening = record { plan = p; closing = closing; bound = bound; reading = reading; feed = m.waits; lawful = m.lawful; opens = opens } in
    record {
      opening = o;
      plan = refl;
      closes = refl;
      within = refl;
      at = refl;
      over = refl;
      reached = subst (λ (v : Whole). Reached o start v) (sym is) opened;
    }
