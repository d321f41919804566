-- What a concentrator is opened with: a plan, a wait policy and a reading, as far as the laws over runs speak of them.
use Rattle.std.specs.Prelude.{◌≡◌, ℕ, ◌+◌, ◌<◌, ◌≤◌, List, Option}
use Rattle.common.specs.Readings.{last_reading}

-- what a frame is by itself, in no state: refused by a number, or sound and of a slot
pub data Sort : Type 0 where
  Fault : ℕ → Sort
  Slot : ℕ → Sort

-- what a slot holds: by port, the bytes of the frame accepted for it, or none
abbrev pub Contents : Type 0
Contents = ℕ → Option (List ℕ)

-- the plan, the policy and the opening reading, with facts of each
pub record Setting : Type 0 where
  -- the number of ports, at least one
  pub ports : ℕ
  pub populated : 0 < ports
  -- what a frame with these bytes is at a port: a refusal has a number from 1 to 19, and a sound frame is at one of the ports
  pub sound : ℕ → List ℕ → Sort
  pub numbered : (p : ℕ) (b : List ℕ) (k : ℕ) → sound p b ≡ Fault k → (0 < k) × (k < 20)
  pub planned : (p : ℕ) (b : List ℕ) (n : ℕ) → sound p b ≡ Slot n → p < ports
  -- the stamp of a slot, and for each reading a number above all slots with a stamp up to it
  pub stamp : ℕ → ℕ
  pub upto : ℕ → ℕ
  pub counted : (n r : ℕ) → stamp n ≤ r → n < upto r
  -- the policy's bound, and the reading that closes a slot, by its stamp and its first arrival, if it has one;
  -- where that has come by a reading in use, the stamp has come too, and it is no later than the stamp and the bound
  pub bound : ℕ
  pub closing : ℕ → Option ℕ → ℕ
  pub from : (t : ℕ) (a : Option ℕ) (l : ℕ) → closing t a ≤ l → l ≤ last_reading → t ≤ l
  pub within : (t : ℕ) (a : Option ℕ) → closing t a ≤ t + bound
  -- a slot whose stamp is less than the bound and 100,000 after another's is less than 32 slots past it
  pub spread : (m n : ℕ) → stamp n < stamp m + bound + 100000 → n < m + 32
  -- the opening reading, one of those in use, and the first slot: the lowest whose stamp is not before it
  pub opening : ℕ
  pub usable : opening ≤ last_reading
  pub first : ℕ
  pub opens : opening ≤ stamp first
  pub lowest : (n : ℕ) → opening ≤ stamp n → first ≤ n
  -- the combined frame of a slot, from what the slot holds, and the room that a write asks for it
  pub frame : ℕ → Contents → List ℕ
  pub size : ℕ
