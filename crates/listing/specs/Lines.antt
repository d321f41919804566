-- What the records of a capture say of its lines.
use Rattle.std.specs.Prelude.{ℕ, zero, suc, ◌-◌, Bool, true, false, ◌&&◌, List, length, Option, Some, None, Ok, Err, Result, find, slice_get, ◌==◌}
use Rattle.std.specs.List.{list_any}
use Rattle.std.specs.Option.{option_or}
use Rattle.common.specs.declared.fault.Fault.{Fault}
use Rattle.fields.specs.Fields.{be16, field}
use Rattle.wire.specs.Frames.{Told, of_data, of_config2, of_other, classified}
use Rattle.capture.specs.declared.record.Record.{Record}

-- a frame was told apart, as a configuration 2
abbrev pub is_config2 : Result Told Fault → Bool
is_config2 (Ok (of_data b)) = false
is_config2 (Ok (of_config2 b)) = true
is_config2 (Ok (of_other b)) = false
is_config2 (Err e) = false

-- the record came by the line
abbrev pub came_by : ℕ → Record → Bool
came_by line r = r.port.0 == line

-- the record came by the line, and has a sound configuration 2
abbrev pub configures : ℕ → Record → Bool
configures line r = came_by line r && is_config2 (classified r.frame.now)

-- the first configuration of a line
abbrev pub first_config : List Record → ℕ → Option Record
first_config rs line = find (configures line) rs

-- any record came by the line
abbrev pub is_used : List Record → ℕ → Bool
is_used rs line = list_any (came_by line) rs

-- DATA_RATE, the last field before the check word
abbrev pub rate_in : List ℕ → Option ℕ
rate_in bs = field bs (length bs - 4) 2 (be16 bs (length bs - 4))

-- the first configuration of the lowest of the lines below k that has one
unfoldable pub lowest_config : List Record → ℕ → Option Record
lowest_config rs zero = None
lowest_config rs (suc k) = option_or (lowest_config rs k) (first_config rs k)

-- the rate that the frame of a record tells, if there is a record
abbrev pub rate_by : Option Record → Option ℕ
rate_by (Some r) = rate_in r.frame.now
rate_by None = None

-- the rate of the lowest line that has a configuration
abbrev pub first_rate : List Record → Option ℕ
first_rate rs = rate_by (lowest_config rs 16)

-- the reading at which a record came, and 0 if there is none
abbrev pub reading_by : Option Record → ℕ
reading_by (Some r) = r.reading
reading_by None = 0

-- the last reading, and 0 where there is no record
abbrev pub last_reading : List Record → ℕ
last_reading rs = reading_by (slice_get rs (length rs - 1))
