-- The highest reading of a clock that any call takes, in microseconds since 1970 UTC.
use Rattle.std.specs.Prelude.{ℕ}

abbrev pub last_reading : ℕ
last_reading = 4000000000000000
