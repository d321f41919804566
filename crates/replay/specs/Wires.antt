-- Feeds whose lines are led to ports: a frame keeps its bytes, and has its port's number in place of its line's.
use Rattle.std.specs.Prelude.{ℕ, min, List, Option, Some, None, slice_get}
use Rattle.std.proofs.Common.{arith}
use Rattle.listing.specs.declared.build.Outcome.{Outcome}
use Rattle.listing.specs.declared.build.Outcome.TheVariants as outcome
use Rattle.feed.specs.Changes.{each, each-lawful}
use Rattle.feed.specs.Feeds.{Waiting, Behaviour, Carried, Lawful, Meaning}

-- the port that a line fills, and 15 if it fills none
abbrev pub filled_by : Option Outcome → ℕ
filled_by (Some (outcome.Filled port)) = port.0
filled_by (Some outcome.Unused) = 15
filled_by (Some outcome.NoConfiguration) = 15
filled_by (Some (outcome.Refused fault)) = 15
filled_by None = 15

-- the port that a line is led to, from what became of each line
abbrev pub port_at : List Outcome → ℕ → ℕ
port_at lines line = min (filled_by (slice_get lines line)) 15

-- a frame at the port that its line is led to, with its bytes as they are
abbrev pub led : List Outcome → Waiting → Waiting
led lines w = record { port = port_at lines w.port; bytes = w.bytes }

-- each waiting frame is led to its port, and nothing else changes
abbrev pub all_led : List Outcome → Behaviour → Behaviour
all_led lines = each (led lines)

-- a frame that can be carried still can once it is led to its port
pub carried-led : (lines : List Outcome) (w : Waiting) → Carried w → Carried (led lines w)
carried-led lines w c = record { line = omega arith; some = c.some; few = c.few }

-- a lawful feed whose lines are led to ports is lawful
pub led-lawful : (lines : List Outcome) (m : Behaviour) → Lawful m → Lawful (all_led lines m)
led-lawful lines = each-lawful (led lines) (carried-led lines)

-- what a feed means once its lines are led to ports
abbrev pub wired : List Outcome → Meaning → Meaning
wired lines m = record { waits = all_led lines m.waits; lawful = led-lawful lines m.waits m.lawful }
