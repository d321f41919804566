-- What the definitions of slots come to.
use Rattle.std.specs.Prelude.{◌≡◌, ℕ, ◌+◌, ◌*◌, ◌<◌, ◌≤◌, true, false, ◌↔◌, Some, None}
use Rattle.slots.specs.Slots.{stamp_of, soc_of, count_of, first_slot, last_slot_at, Belongs, slot_of, window_fits}

-- a later slot has a later stamp
abbrev pub StampsRise : Type 0
StampsRise = (F m n : ℕ) → 0 < F → F ≤ 1000000 → m < n → stamp_of F m < stamp_of F n

-- the stamp of a slot is its SOC in microseconds and its count
abbrev pub OwnSecond : Type 0
OwnSecond = (F n : ℕ) → 0 < F → stamp_of F n ≡ soc_of F n * 1000000 + count_of F n

-- the first slot of a reading is the lowest slot whose stamp is not before it
abbrev pub FirstSlot : Type 0
FirstSlot =
    (F r : ℕ) → 0 < F → (r ≤ stamp_of F (first_slot F r)) × ((n : ℕ) → r ≤ stamp_of F n → first_slot F r ≤ n)

-- the slots whose stamps are not after a reading are those up to the last
abbrev pub LastSlot : Type 0
LastSlot = (F r n : ℕ) → 0 < F → (stamp_of F n ≤ r) ↔ (n ≤ last_slot_at F r)

-- the slot of a frame is a place that its count belongs to
abbrev pub AlignedBelongs : Type 0
AlignedBelongs =
    (F TB s f n : ℕ) → 0 < F → slot_of F TB s f ≡ Some n → (k : ℕ) × Belongs F TB f k × (n ≡ s * F + k)

-- a frame whose count belongs to a place has its slot there
abbrev pub BelongsAligns : Type 0
BelongsAligns =
    (F TB s f k : ℕ) → 0 < F → 2 * F ≤ TB → Belongs F TB f k → slot_of F TB s f ≡ Some (s * F + k)

-- a count belongs to one place at most
abbrev pub UniquePlace : Type 0
UniquePlace = (F TB f j k : ℕ) → 2 * F ≤ TB → Belongs F TB f j → Belongs F TB f k → j ≡ k

-- the SOC and the count of a slot, in millionths, are those of a frame of the slot
abbrev pub OwnTime : Type 0
OwnTime = (F n : ℕ) → 0 < F → F ≤ 500000 → slot_of F 1000000 (soc_of F n) (count_of F n) ≡ Some n

-- under a wait that fits, slots whose stamps are less than the wait and 100 ms apart are less than 32 apart
abbrev pub WindowSpans : Type 0
WindowSpans =
    (F W m n : ℕ) → 0 < F → window_fits F W ≡ true → stamp_of F n < stamp_of F m + W + 100000 → n < m + 32

-- counts at 30 frames a second and at the edge of a place, a first slot, and the widest wait at 50
pub record WorkedSlots : Type 0 where
  pub own : slot_of 30 1000000 0 33333 ≡ Some 1
  pub rounded : slot_of 30 1000000 0 33334 ≡ Some 1
  pub early : slot_of 30 1000000 0 33332 ≡ None
  pub last : slot_of 30 1000000 0 999999 ≡ None
  pub first : first_slot 50 1000000001 ≡ 50001
  pub fits : window_fits 50 540000 ≡ true
  pub exceeds : window_fits 50 540001 ≡ false
