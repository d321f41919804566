-- What the configurations of a capture make: a plan, and a combined configuration.
use Rattle.std.specs.Prelude.{ℕ, zero, suc, Bool, true, false, List, [], ◌∷◌, ◌++◌, length, take, replicate, Option, Some, None, Ok, Err, Result, unwrap_or}
use Rattle.std.specs.declared.vec.Vec.{Vec}
use Rattle.std.specs.declared.alloc.Global.{Global}
use Rattle.common.specs.declared.fault.Fault.{Fault}
use Rattle.plan.specs.Plans.{adds, add_answer}
use Rattle.plan.specs.Publish.{publishes}
use Rattle.plan.specs.Runs.{Call, adding, publishing, State, start, after_call, after_calls}
use Rattle.capture.specs.declared.record.Record.{Record}
use Rattle.listing.specs.declared.build.Outcome.{Outcome}
use Rattle.listing.specs.declared.build.Outcome.TheVariants as outcome
use Rattle.listing.specs.Lines.{first_config, is_used, first_rate}

-- the buffer that the ports are added with: room for the longest configuration that a plan can make
unfoldable pub blank : List ℕ
blank = replicate 40024 0

-- a plan of the code without ports, at the rate of the lowest line that has a configuration
unfoldable pub begun : ℕ → List Record → State
begun id rs = start id (unwrap_or (first_rate rs) 0) blank

-- the add of a line's first configuration; a line without one adds nothing
abbrev pub adds_of : Option Record → List Call
adds_of (Some r) = adding r.frame.now ∷ []
adds_of None = []

-- after the first configuration of a line, if it has one
unfoldable pub after_line : State → Option Record → State
after_line s c = after_calls s (adds_of c)

-- after the lines below k, in their order
unfoldable pub after_lines : ℕ → List Record → ℕ → State
after_lines id rs zero = begun id rs
after_lines id rs (suc k) = after_line (after_lines id rs k) (first_config rs k)

-- what an add makes of its line: it fills the port with this number, or its configuration was refused
abbrev pub answered : Result ℕ Fault → Outcome
answered (Ok n) = outcome.Filled (record { 0 = n })
answered (Err e) = outcome.Refused e

-- what became of a line, by its first configuration, and by whether any record came
unfoldable pub outcome_of : State → Option Record → Bool → Outcome
outcome_of s (Some r) used = answered (add_answer s.plan (adds s.plan r.frame.now (length s.buffer)))
outcome_of s None true = outcome.NoConfiguration
outcome_of s None false = outcome.Unused

-- what became of the lines below k
unfoldable pub outcomes : ℕ → List Record → ℕ → List Outcome
outcomes id rs zero = []
outcomes id rs (suc k) = outcomes id rs k ++ outcome_of (after_lines id rs k) (first_config rs k) (is_used rs k) ∷ []

-- the frame at the buffer's front, if a publish answered how long it is, or else the refusal
abbrev pub front_by : Result ℕ Fault → List ℕ → Result (List ℕ) Fault
front_by (Ok n) buffer = Ok (take n buffer)
front_by (Err e) buffer = Err e

-- the frame that publishing at a reading leaves at the buffer's front, or its refusal
unfoldable pub published : State → ℕ → Result (List ℕ) Fault
published s reading = front_by (publishes s.plan reading (length s.buffer)) (after_call s (publishing reading)).buffer

-- what the code answers, with the published frame's bytes as a list
abbrev pub bytes_by : Result (Vec ℕ Global) Fault → Result (List ℕ) Fault
bytes_by (Ok v) = Ok v.items
bytes_by (Err e) = Err e
