-- What an opened capture still holds.
use Rattle.std.specs.Prelude.{◌≡◌, List, [], ◌∷◌, length, Some, None, Ok, Err, Option, Result}
use Rattle.common.specs.declared.fault.Fault.{Fault}
use Rattle.capture.specs.declared.capture.Capture.{Capture}
use Rattle.capture.specs.declared.record.Record.{Record}
use Rattle.capture.specs.Records.{Entry, entry_of, leading}

-- the records still to come
abbrev pub to_come : Capture → List Entry
to_come c = leading (length c.rest.now) c.rest.now

-- what opening a capture answers, told by its records: all of them still to come, or the refusal
abbrev pub told : Result Capture Fault → Result (List Entry) Fault
told (Ok c) = Ok (to_come c)
told (Err e) = Err e

-- a call at the state s gives the first record to come, and leaves the others; none comes only at the end, which stays
abbrev pub Gives : Capture → Option Record → Capture → Type 0
Gives s None t = (to_come s ≡ []) × (t ≡ s)
Gives s (Some x) t = to_come s ≡ entry_of x ∷ to_come t
