-- Lists of adds and publishes on one plan and one buffer, from the beginning of the plan.
use Rattle.fields.specs.Fields.{left_by}
use Rattle.std.specs.Prelude.{ℕ, List, [], ◌∷◌, ◌++◌, length, Ok, Err, Result}
use Rattle.common.specs.declared.fault.Fault.{Fault}
use Rattle.config.specs.declared.station.Station.{Station}
use Rattle.config.specs.Configs.{Says, configured}
use Rattle.wire.specs.Frames.{body_of}
use Rattle.plan.specs.Ports.{PortOf}
use Rattle.plan.specs.Plans.{PlanOf, begun, adds, add_plan, add_buffer}
use Rattle.plan.specs.Publish.{publishes, published_frame}

-- a call: the add of a frame, or a publish at a reading
pub data Call : Type 0 where
  adding : List ℕ → Call
  publishing : ℕ → Call

-- what the calls work on: a plan, and the one buffer in which its station parts are gathered
pub record State : Type 0 where
  pub plan : PlanOf
  pub buffer : List ℕ

-- what a call leaves, accepted or refused
abbrev pub after_call : State → Call → State
after_call s (adding bytes) =
    record {
      plan = add_plan s.plan (adds s.plan bytes (length s.buffer));
      buffer = add_buffer s.plan bytes (adds s.plan bytes (length s.buffer)) s.buffer;
    }
after_call s (publishing reading) =
    record {
      plan = s.plan;
      buffer = left_by (publishes s.plan reading (length s.buffer)) (published_frame s.plan reading s.buffer) s.buffer;
    }

-- what a list of calls leaves
abbrev pub after_calls : State → List Call → State
after_calls s [] = s
after_calls s (c ∷ cs) = after_calls (after_call s c) cs

-- the frame with these bytes, if the add of it was accepted
abbrev pub if_accepted : Result PortOf Fault → List ℕ → List (List ℕ)
if_accepted (Ok q) bytes = bytes ∷ []
if_accepted (Err e) bytes = []

-- the frame of a call that is an accepted add
abbrev pub accepted_by : State → Call → List (List ℕ)
accepted_by s (adding bytes) = if_accepted (adds s.plan bytes (length s.buffer)) bytes
accepted_by s (publishing reading) = []

-- the frames of the accepted adds of a list of calls, in their order
abbrev pub accepted : State → List Call → List (List ℕ)
accepted s [] = []
accepted s (c ∷ cs) = accepted_by s c ++ accepted (after_call s c) cs

-- before any call: the plan has no ports, and the buffer is as it was given
abbrev pub start : ℕ → ℕ → List ℕ → State
start id rate buffer = record { plan = begun id rate; buffer = buffer }

-- the stations that a configuration's body describes, and none if it is refused
abbrev pub stations_by : Result Says Fault → List Station
stations_by (Ok s) = s.stations
stations_by (Err e) = []

-- the stations of a configuration frame of one line
abbrev pub stations_of : List ℕ → List Station
stations_of bytes = stations_by (configured (body_of bytes) 8)
