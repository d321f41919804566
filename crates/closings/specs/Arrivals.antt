-- The first arrival in each slot.
use Rattle.std.specs.Prelude.{◌≡◌, ◌≢◌, ℕ, Option, Some, unwrap_or}
use Rattle.std.specs.Ordering.{nat_cmp}
use Rattle.std.specs.BTreeMap.{get}
use Rattle.closings.specs.declared.arrivals.Arrivals.{Arrivals}

-- when the first frame of a slot came, if one did
abbrev pub first_in : Arrivals → ℕ → Option ℕ
first_in a slot = get nat_cmp a.by_slot slot

-- a frame was taken that came for the slot at the reading: the first one stays the first, and other slots stay as they were
pub record FirstKept (old new : Arrivals) (slot reading : ℕ) : Type 0 where
  pub here : first_in new slot ≡ Some (unwrap_or (first_in old slot) reading)
  pub others : (other : ℕ) → other ≢ slot → first_in new other ≡ first_in old other
