-- The combined configuration of a plan.
use Rattle.std.specs.Prelude.{ℕ, ◌+◌, ◌/◌, ◌%◌, cond, List, ◌++◌, length, take, drop, Ok, Err, Result, ◌==◌, nat_lt}
use Rattle.common.specs.declared.fault.Fault.{Fault}
use Rattle.common.specs.declared.fault.Fault.TheVariants as fault
use Rattle.fields.specs.Fields.{bytes16, bytes32}
use Rattle.wire.specs.declared.header.Header.{Header}
use Rattle.wire.specs.declared.header.TimeTag.{TimeTag}
use Rattle.wire.specs.declared.kind.FrameType.TheVariants.{Config2}
use Rattle.wire.specs.Frames.{header_for, frame_bytes}
use Rattle.plan.specs.Ports.{station_count, parts_length}
use Rattle.plan.specs.Plans.{PlanOf}
use Rattle.common.specs.Readings.{last_reading}

-- its length: 20 bytes before the parts, and 4 behind them
abbrev pub published_length : PlanOf → ℕ
published_length p = 24 + parts_length p.ports

-- what publishing at a reading into a buffer of so many bytes answers: the length, or the first refusal that is due
abbrev pub publishes : PlanOf → ℕ → ℕ → Result ℕ Fault
publishes p reading room =
    cond (nat_lt room (published_length p)) (Err fault.Buffer)
    (cond (nat_lt last_reading reading) (Err fault.Reading) (cond (length p.ports == 0) (Err fault.EmptyPlan) (Ok (published_length p))))

-- a reading, in microseconds, as a time tag of the time base 1,000,000, with quality 0
abbrev pub tag_at : ℕ → TimeTag
tag_at reading = record { soc = reading / 1000000; quality = 0; count = reading % 1000000 }

-- the body: the time base, the number of stations, the parts as the buffer holds them, and the rate
abbrev pub published_body : PlanOf → List ℕ → List ℕ
published_body p buffer =
    bytes32 1000000 ++ (bytes16 (station_count p.ports) ++ (take (parts_length p.ports) (drop 20 buffer) ++ bytes16 p.rate))

-- the header: a configuration 2 under the plan's code, with the reading as its time
abbrev pub published_header : PlanOf → ℕ → Header
published_header p reading = header_for Config2 (record { 0 = p.id }) (tag_at reading) (8 + parts_length p.ports)

-- the frame that is left at the buffer's front
abbrev pub published_frame : PlanOf → ℕ → List ℕ → List ℕ
published_frame p reading buffer = frame_bytes (published_header p reading) (published_body p buffer)
