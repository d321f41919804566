-- How the blocks of the ports make up a combined frame, and which of its bytes are a port's.
use Rattle.std.specs.Prelude.{◌≡◌, ℕ, zero, suc, ◌+◌, List, [], ◌++◌, length, take, drop, Option}
use Rattle.laws.specs.Setting.{Setting, Contents}

-- how frames are laid out: a head of one length, a block of one length for each port, from its frame or from none, and a tail
pub record Layout : Type 0 where
  pub before : ℕ
  pub head : ℕ → Contents → List ℕ
  pub headed : (n : ℕ) (x : Contents) → length (head n x) ≡ before
  pub width : ℕ → ℕ
  pub block : ℕ → Option (List ℕ) → List ℕ
  pub sized : (p : ℕ) (o : Option (List ℕ)) → length (block p o) ≡ width p
  pub tail : ℕ → Contents → List ℕ

-- the blocks of the ports below k, one after another
abbrev pub body : Layout → Contents → ℕ → List ℕ
body L x zero = []
body L x (suc k) = body L x k ++ L.block k (x k)

-- the frame of slot n under a layout, with this many ports
abbrev pub laid_out : Layout → ℕ → ℕ → Contents → List ℕ
laid_out L ports n x = L.head n x ++ (body L x ports ++ L.tail n x)

-- the frames of a setting are laid out so
abbrev pub Lays : Layout → Setting → Type 0
Lays L g = (n : ℕ) (x : Contents) → g.frame n x ≡ laid_out L g.ports n x

-- where the block of port q begins among the blocks
abbrev pub offset : Layout → ℕ → ℕ
offset L zero = 0
offset L (suc q) = offset L q + L.width q

-- the bytes of port q in a written frame
abbrev pub part : Layout → ℕ → List ℕ → List ℕ
part L q bs = take (L.width q) (drop (offset L q) (drop L.before bs))
