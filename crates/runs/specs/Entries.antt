-- The entries of a journal, and which one each call makes.
use Rattle.std.specs.Prelude.{ℕ, List, [], ◌∷◌, length, take, Ok, Err, Result}
use Rattle.common.specs.declared.fault.Fault.{Fault}
use Rattle.engine.specs.Calls.{CountsOf}
use Rattle.concentrator.specs.declared.calls.Pulled.{Pulled}
use Rattle.concentrator.specs.Wholes.{Whole}
use Rattle.concentrator.specs.Calls as on
use Rattle.runs.specs.Requests.{Request, ticking, admitting, pulling, taking, writing, counting, leaves}

-- a frame that was pulled: its port, its bytes and its verdict
pub record PulledOf : Type 0 where
  pub port : ℕ
  pub bytes : List ℕ
  pub verdict : Result Unit Fault

-- a call with its inputs and its answer, in full
pub data EntryOf : Type 0 where
  ticked : ℕ → ℕ → Result Unit Fault → EntryOf
  admitted : ℕ → List ℕ → Result Unit Fault → EntryOf
  pulled : ℕ → Result PulledOf Fault → EntryOf
  taken : Result ℕ Fault → EntryOf
  wrote : ℕ → ℕ → Result (List ℕ) Fault → EntryOf
  counted : Result CountsOf Fault → EntryOf

-- ---- the entry that is due: what the call answers by its contract, with the bytes that it leaves at the front of its buffer
-- what a pull answers, with the frame that it left at the buffer's front
abbrev pub front_by : List ℕ → Result Pulled Fault → Result PulledOf Fault
front_by buffer (Ok x) = Ok (record { port = x.port.0; bytes = take x.len buffer; verdict = x.verdict })
front_by buffer (Err f) = Err f

-- the slot's frame, if the write succeeded, or else its refusal
abbrev pub frame_by : List ℕ → Result ℕ Fault → Result (List ℕ) Fault
frame_by frame (Ok l) = Ok frame
frame_by frame (Err f) = Err f

-- the entry of each call: its inputs, and what it answers in this state
abbrev pub due : Whole → Request → EntryOf
due w (ticking r scratch) = ticked r (length scratch) (on.tick_said w r scratch)
due w (admitting q bytes) = admitted q bytes (on.admit_said w q bytes)
due w (pulling buffer) = pulled (length buffer) (front_by (on.pull_buffer w buffer) (on.pull_said w buffer))
due w taking = taken (on.take_said w)
due w (writing n room) = wrote n room (frame_by (on.frame_of w n) (on.write_said w n room))
due w counting = counted (on.counts_said w)

-- the entries of a list of calls, in order, each made where the one before left the concentrator
abbrev pub all_due : Whole → List Request → List EntryOf
all_due w [] = []
all_due w (r ∷ rs) = due w r ∷ all_due (leaves w r) rs

-- the concentrator that a list of calls leaves, made one after the other
abbrev pub left_by : Whole → List Request → Whole
left_by w [] = w
left_by w (r ∷ rs) = left_by (leaves w r) rs
