-- The numbers that bound an engine.
use Rattle.std.specs.Prelude.{ℕ, ◌*◌}

-- how far past the latest reading a tick may be, in microseconds
abbrev pub longest_step : ℕ
longest_step = 60000000

-- how far past the latest reading the stamp of a frame's slot may be, in microseconds
abbrev pub earliest : ℕ
earliest = 100000

-- how many slots from the oldest unwritten one on can hold frames
abbrev pub window : ℕ
window = 32

-- how many frames are judged at most
abbrev pub most_frames : ℕ
most_frames = 1000000000000000

-- past every slot that a reading in use can reach, at so many frames a second
abbrev pub slot_limit : ℕ → ℕ
slot_limit rate = 4000000001 * rate
