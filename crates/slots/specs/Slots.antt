-- Slots at F frames a second: their stamps and tags, and which slot a frame belongs to. Readings and stamps are in microseconds since 1970.
use Rattle.std.specs.Prelude.{ℕ, ◌+◌, ◌-◌, ◌*◌, ◌/◌, ◌%◌, ◌<◌, Bool, cond, ◌&&◌, Some, None, Option, Err, Result, ◌==◌, nat_le, nat_lt}
use Rattle.std.specs.Option.{ok_or, option_map}
use Rattle.std.specs.Bool.{then_some}
use Rattle.common.specs.declared.fault.Fault.{Fault}
use Rattle.common.specs.declared.fault.Fault.TheVariants as fault
use Rattle.slots.specs.declared.rate.Rate.{Rate}

-- the frames a second of a rate
abbrev pub frames_of : Rate → ℕ
frames_of r = r.frames

-- a rate has 1 to 120 frames a second
abbrev pub rate_from : ℕ → Option ℕ
rate_from n = then_some (nat_le 1 n && nat_le n 120) n

-- the stamp of slot n: n × 1,000,000 / F, rounded down
abbrev pub stamp_of : ℕ → ℕ → ℕ
stamp_of F n = n * 1000000 / F

-- the SOC of slot n: its whole seconds
abbrev pub soc_of : ℕ → ℕ → ℕ
soc_of F n = n / F

-- the count of slot n: what its stamp has above its whole seconds
abbrev pub count_of : ℕ → ℕ → ℕ
count_of F n = n % F * 1000000 / F

-- the lowest slot whose stamp is not before a reading: reading × F / 1,000,000, rounded up
abbrev pub first_slot : ℕ → ℕ → ℕ
first_slot F r = (r * F + 999999) / 1000000

-- the highest slot whose stamp is not after a reading
abbrev pub last_slot_at : ℕ → ℕ → ℕ
last_slot_at F r = ((r + 1) * F - 1) / 1000000

-- a count f, times F, is less than F away from k time bases, and k is a slot of the second
pub record Belongs (F TB f k : ℕ) : Type 0 where
  pub above : k * TB < f * F + F
  pub below : f * F < k * TB + F
  pub within : k < F

-- the number of time bases that x is less than F away from: those below x, or one more
abbrev pub nearest : ℕ → ℕ → ℕ → Option ℕ
nearest x TB F =
    cond (TB == 0) None (cond (nat_lt (x % TB) F) (Some (x / TB)) (cond (nat_lt (TB - x % TB) F) (Some (x / TB + 1)) None))

-- a place below F, or none: a place from F on is in no second
abbrev pub in_second : ℕ → Option ℕ → Option ℕ
in_second F (Some k) = then_some (nat_lt k F) k
in_second F None = None

-- the place of a count among the slots of its second
abbrev pub place_of : ℕ → ℕ → ℕ → Option ℕ
place_of F TB f = in_second F (nearest (f * F) TB F)

-- the slot of a frame with a SOC and a count, from a sender with time base TB
abbrev pub slot_of : ℕ → ℕ → ℕ → ℕ → Option ℕ
slot_of F TB soc f = option_map (λ k. soc * F + k) (place_of F TB f)

-- the slot of such a frame, or its refusal: its count has to be below the time base, and of a slot
abbrev pub slot_due : ℕ → ℕ → ℕ → ℕ → Result ℕ Fault
slot_due F TB soc f = cond (nat_lt f TB) (ok_or (slot_of F TB soc f) fault.NoSlot) (Err fault.Count)

-- whether no more than 32 slots are open at once, under a wait of at most W
abbrev pub window_fits : ℕ → ℕ → Bool
window_fits F W = nat_le ((100000 + W) * F) 32000000
