-- Calls on the model of a concentrator, each with its buffer.
use Rattle.std.specs.Prelude.{ℕ, List, length}
use Rattle.concentrator.specs.Wholes.{Whole}
use Rattle.concentrator.specs.Calls as on
use Rattle.laws.specs.Journal.{Call, Ticking, Admitting, Pulling, Taking, Writing, Counting}

-- a tick with its scratch buffer, a frame for a port, a pull into a buffer, a take, a write with a ticket's number and a buffer's length, and the counts
pub data Request : Type 0 where
  ticking : ℕ → List ℕ → Request
  admitting : ℕ → List ℕ → Request
  pulling : List ℕ → Request
  taking : Request
  writing : ℕ → ℕ → Request
  counting : Request

-- the call that a journal has of it: of a buffer only its length
abbrev pub call_of : Request → Call
call_of (ticking r scratch) = Ticking r (length scratch)
call_of (admitting q bytes) = Admitting q bytes
call_of (pulling buffer) = Pulling (length buffer)
call_of taking = Taking
call_of (writing n room) = Writing n room
call_of counting = Counting

-- what a call leaves of the concentrator
abbrev pub leaves : Whole → Request → Whole
leaves w (ticking r scratch) = on.ticked w r scratch
leaves w (admitting q bytes) = on.admitted w q bytes
leaves w (pulling buffer) = on.pulled w buffer
leaves w taking = on.lent w
leaves w (writing n room) = on.wrote w n room
leaves w counting = w
