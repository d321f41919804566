-- When a slot closes, by its stamp and the first arrival in it.
use Rattle.std.specs.Prelude.{◌≡◌, ℕ, ◌+◌, min, max, Some, None, Option}

-- a wait, in microseconds, as a policy takes it
abbrev pub capped : ℕ → ℕ
capped wait = min wait 60000000

-- a stamp or an arrival as a policy takes it
abbrev pub held : ℕ → ℕ
held reading = min reading 5000000000000000

-- a first arrival as a policy takes it, if there is one
abbrev pub held_by : Option ℕ → Option ℕ
held_by (Some reading) = Some (held reading)
held_by None = None

-- w after the stamp
abbrev pub absolute_closing : ℕ → ℕ → ℕ
absolute_closing w stamp = stamp + w

-- r after the later of stamp and arrival, and at the latest w after the stamp
abbrev pub relative_closing : ℕ → ℕ → ℕ → Option ℕ → ℕ
relative_closing r w stamp (Some arrival) = min (stamp + w) (max stamp arrival + r)
relative_closing r w stamp None = stamp + w

-- no arrival, nor its lack, changes when a slot closes
abbrev pub Ignores : (ℕ → Option ℕ → ℕ) → Type 0
Ignores closing = (stamp : ℕ) (a b : Option ℕ) → closing stamp a ≡ closing stamp b
