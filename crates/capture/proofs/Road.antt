-- A capture as an iterator: calls give its records to come, in their order, and then none.
use Rattle.std.proofs.Common.{length, ap}
use Rattle.std.proofs.lemmas.Iterator.{YieldsList}
use Rattle.std.proofs.lemmas.Iterator.Consumers.{YieldsList-from_shown}
use Rattle.capture.specs.declared.capture.Capture.{Capture}
use Rattle.capture.specs.Records.{entry_of}
use Rattle.capture.specs.Captures.{Gives, to_come}

pub capture_road : (c : Capture) → YieldsList Gives entry_of c (to_come c)
capture_road = YieldsList-from_shown Gives entry_of to_come (λ s t h. ap length h.0) (λ s x t h. h)
