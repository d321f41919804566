-- What an alignment engine is opened with, and what it keeps between calls.
use Rattle.std.specs.Prelude.{ℕ, ◌+◌, Bool, ◌&&◌, List, Option, nat_le, nat_lt}
use Rattle.slots.specs.Slots.{stamp_of, last_slot_at}
use Rattle.plan.specs.Ports.{PortOf}
use Rattle.combined.specs.Blocks.{Blocks}
use Rattle.engine.specs.Limits.{window}

-- what never changes: the combined code, the frames a second, the ports and the first slot
pub record Setting : Type 0 where
  pub id : ℕ
  pub rate : ℕ
  pub ports : List PortOf
  pub first : ℕ

-- when the slot of a stamp closes, by its first arrival
abbrev pub Closing : Type 0
Closing = ℕ → Option ℕ → ℕ

-- what changes
pub record Box : Type 0 where
  -- the latest reading
  pub latest : ℕ
  -- the lowest open slot
  pub front : ℕ
  -- how many slots are written
  pub written : ℕ
  -- by slot and port, the frame in it, for slots that are not written
  pub held : ℕ → Blocks
  -- by slot, its first arrival, for slots that are not written
  pub arrived : ℕ → Option ℕ
  -- the number of the ticket that is out
  pub out : Option ℕ
  -- by number, the frames that were given it: 0 for those accepted
  pub tally : ℕ → ℕ
  -- all frames that were judged
  pub judged : ℕ

-- the stamp of slot n
abbrev pub stamp : Setting → ℕ → ℕ
stamp g n = stamp_of g.rate n

-- the number of slots whose stamps are not after a reading
abbrev pub upto : Setting → ℕ → ℕ
upto g r = last_slot_at g.rate r + 1

-- the oldest unwritten slot
abbrev pub oldest : Setting → Box → ℕ
oldest g s = g.first + s.written

-- slot n is one of the window from the oldest unwritten one on: only these hold frames
abbrev pub within_window : ℕ → ℕ → Bool
within_window o n = nat_le o n && nat_lt n (o + window)
