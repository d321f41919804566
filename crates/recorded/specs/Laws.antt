-- What the ticks of a feed add of a capture, by the readings alone.
use Rattle.std.specs.Prelude.{◌≡◌, ℕ, Bool, false, not, ◌&&◌, ◌||◌, List, [], ◌∷◌, ◌++◌, map, Ok, Err, filter}
use Rattle.common.specs.declared.fault.Fault.{Fault}
use Rattle.capture.specs.Records.{Entry, records_of}
use Rattle.feed.specs.Feeds.{Op, Tick, Next}
use Rattle.recorded.specs.Queues.{come, waiting_of, played}

-- some tick has come to a record
abbrev pub passed : List Op → Entry → Bool
passed [] e = false
passed (Tick r ∷ ops) e = come r e || passed ops e
passed (Next ∷ ops) e = passed ops e

-- the records that a tick comes to, and no tick before it
abbrev pub newly : List Op → ℕ → List Entry → List Entry
newly ops r es = filter (λ e. not (passed ops e) && come r e) es

-- of a sound capture a tick adds, at the end, all records that it is the first to come to, and no others
abbrev pub AddsAllDue : Type 0
AddsAllDue =
    (bs : List ℕ) (es : List Entry) → records_of bs ≡ Ok es → (ops : List Op) (r : ℕ) → played bs (ops ++ (Tick r ∷ [])) ≡ played bs ops ++ map waiting_of (newly ops r es)

-- of a capture that is not sound, nothing ever waits
abbrev pub SilentIfUnsound : Type 0
SilentIfUnsound = (bs : List ℕ) (f : Fault) → records_of bs ≡ Err f → (ops : List Op) → played bs ops ≡ []
