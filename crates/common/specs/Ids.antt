-- The codes that name no sender: 0 and 65,535.
use Rattle.std.specs.Prelude.{ℕ, Bool, ◌||◌, ◌==◌}

-- the code names no sender
abbrev pub reserved : ℕ → Bool
reserved id = id == 0 || id == 65535
