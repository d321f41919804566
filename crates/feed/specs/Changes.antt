-- Layers that change each waiting frame by itself, and leave their number and order as they are.
use Rattle.std.specs.Prelude.{◌≡◌, List, [], ◌∷◌, map, refl}
use Rattle.std.proofs.Common.{◌∙◌, ap}
use Rattle.feed.specs.Feeds.{Waiting, Behaviour, rest, Within, within_none, within_more, within_both, Carried, AllCarried, Lawful}

-- each waiting frame is changed, and nothing else
abbrev pub each : (Waiting → Waiting) → Behaviour → Behaviour
each on m = λ ops. map on (m ops)

-- changed one by one, frames stand within others as they did
within-each : (on : Waiting → Waiting) {xs ys : List Waiting} → Within xs ys → Within (map on xs) (map on ys)
within-each on within_none = within_none
within-each on (within_more p) = within_more (within-each on p)
within-each on (within_both p) = within_both (within-each on p)

-- whether the first frame is left out before or after the change is the same
rest-each : (on : Waiting → Waiting) (xs : List Waiting) → map on (rest xs) ≡ rest (map on xs)
rest-each on [] = refl
rest-each on (x ∷ xs) = refl

-- if nothing waits once frames are changed, nothing waited
none-each : (on : Waiting → Waiting) (xs : List Waiting) → map on xs ≡ [] → xs ≡ []
none-each on [] e = refl
none-each on (x ∷ xs) e = cc

module _ (on : Waiting → Waiting) (carries : (w : Waiting) → Carried w → Carried (on w)) where
  -- if each frame can be carried once it is changed, so can all of a list
  carried-each : (xs : List Waiting) → AllCarried xs → AllCarried (map on xs)
  carried-each [] c = tt
  carried-each (x ∷ xs) c = (carries x c.0, carried-each xs c.1)

  -- any such layer over a lawful feed is lawful
  pub each-lawful : (m : Behaviour) → Lawful m → Lawful (each on m)
  each-lawful m l =
      record {
        ticked = λ ops r. within-each on (l.ticked ops r);
        nexted = λ ops. ap (map on) (l.nexted ops) ∙ rest-each on (m ops);
        idle = λ ops more e. ap (map on) (l.idle ops more (none-each on (m ops) e));
        carried = λ ops. carried-each (m ops) (l.carried ops);
      }
