-- The states that a concentrator under another can reach.
use Rattle.std.specs.Prelude.{◌≡◌, ◌≤◌, None}
use Rattle.std.proofs.Common.{sym, ◌∙◌, subst}
use Rattle.plan.specs.Ports.{body_length}
use Rattle.engine.specs.Boxes.{Setting}
use Rattle.concentrator.specs.Wholes.{Whole}
use Rattle.stacked.specs.Later.{Fits, Later}

-- no ticket is out, and each frame that is written has at most 1,040 bytes
pub record Reached (w : Whole) : Type 0 where
  pub free : w.shut ≡ None → w.box.out ≡ None
  pub narrow : body_length w.setting.ports ≤ 1024
  pub fits : Fits w.setting.ports w.box.held

-- ticks and pulls keep to them
pub later-reached : {w v : Whole} → Later w v → Reached w → Reached v
later-reached {w} {v} l r =
    record {
      free = λ e. l.slots.out ∙ r.free (sym l.shut ∙ e);
      narrow = subst (λ (g : Setting). body_length g.ports ≤ 1024) (sym l.setting) r.narrow;
      fits = subst (λ (g : Setting). Fits g.ports v.box.held) (sym l.setting) (l.slots.fits r.fits);
    }
