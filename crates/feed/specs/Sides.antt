-- What a joined feed has to do with its two parts, told by their own lists.
use Rattle.std.specs.Prelude.{◌≡◌, ℕ, List, [], ◌∷◌, ◌++◌}
use Rattle.feed.specs.Feeds.{Op, Tick, Next, Behaviour}
use Rattle.feed.specs.Joined.{joined}

-- the readings of the ticks among some operations, in their order
abbrev pub ticks_of : List Op → List ℕ
ticks_of [] = []
ticks_of (Tick r ∷ ops) = r ∷ ticks_of ops
ticks_of (Next ∷ ops) = ticks_of ops

-- what waits after some operations is what waits at the first after some, then what waits at the
-- second after some, and each part has had every tick
pub record Sides (a b : Behaviour) (ops : List Op) : Type 0 where
  pub first : List Op
  pub second : List Op
  pub waits : joined a b ops ≡ a first ++ b second
  pub first_ticks : ticks_of first ≡ ticks_of ops
  pub second_ticks : ticks_of second ≡ ticks_of ops

-- whatever is done to two joined feeds, what waits is what waits at each of them, and each has had every tick
abbrev pub BothWait : Type 0
BothWait = (a b : Behaviour) (ops : List Op) → Sides a b ops
