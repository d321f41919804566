-- What a feed means: the frames that wait after each sequence of operations from here, in their order.
use Rattle.std.specs.Prelude.{◌≡◌, ℕ, ◌≤◌, List, [], ◌∷◌, ◌++◌, length}

-- a frame that waits: the number of its line, and its bytes
pub record Waiting : Type 0 where
  pub port : ℕ
  pub bytes : List ℕ

-- what can be done to a feed: a tick with a reading, and the taking of the first frame
pub data Op : Type 0 where
  Tick : ℕ → Op
  Next : Op

-- for each sequence of operations from here, the list that it leaves
abbrev pub Behaviour : Type 0
Behaviour = List Op → List Waiting

-- the behaviour once an operation is done
abbrev pub after : Behaviour → Op → Behaviour
after m o = λ ops. m (o ∷ ops)

-- a list without its first frame; of no frames, none
abbrev pub rest : List Waiting → List Waiting
rest [] = []
rest (w ∷ ws) = ws

-- the frames of one list stand in another, in their order, with any others between them
pub data Within : List Waiting → List Waiting → Type 0 where
  within_none : Within [] []
  within_more : {w : Waiting} {xs ys : List Waiting} → Within xs ys → Within xs (w ∷ ys)
  within_both : {w : Waiting} {xs ys : List Waiting} → Within xs ys → Within (w ∷ xs) (w ∷ ys)

-- what a feed can carry: one of sixteen lines, and 1 to 1,040 bytes
pub record Carried (w : Waiting) : Type 0 where
  pub line : w.port ≤ 15
  pub some : 1 ≤ length w.bytes
  pub few : length w.bytes ≤ 1040

-- each frame of a list is one that a feed can carry
abbrev pub AllCarried : List Waiting → Type 0
AllCarried [] = Unit {0}
AllCarried (w ∷ ws) = Carried w × AllCarried ws

-- what holds of every feed, after any operations
pub record Lawful (m : Behaviour) : Type 0 where
  -- a tick keeps all that waited, in its order, wherever the frames stand that it adds
  pub ticked : (ops : List Op) (r : ℕ) → Within (m ops) (m (ops ++ (Tick r ∷ [])))
  -- a next takes the first frame
  pub nexted : (ops : List Op) → m (ops ++ (Next ∷ [])) ≡ rest (m ops)
  -- a next with nothing waiting changes nothing, nor what comes later
  pub idle : (ops more : List Op) → m ops ≡ [] → m (ops ++ (Next ∷ more)) ≡ m (ops ++ more)
  -- nothing waits that a feed cannot carry
  pub carried : (ops : List Op) → AllCarried (m ops)

-- what a feed means, with the facts that hold of every feed
pub record Meaning : Type 0 where
  pub waits : Behaviour
  pub lawful : Lawful waits
