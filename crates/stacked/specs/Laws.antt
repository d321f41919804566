-- What the steps of a concentrator under another come to.
use Rattle.std.specs.Prelude.{◌≡◌, ℕ, true, false, cond, ◌⊎◌, List, [], is_ok, Some, None, Ok}
use Rattle.common.specs.declared.fault.Fault.{Fault}
use Rattle.feed.specs.Feeds.{Op, Tick, Lawful}
use Rattle.feed.specs.Calls.{short}
use Rattle.engine.specs.Calls as on
use Rattle.concentrator.specs.Wholes.{Whole}
use Rattle.concentrator.specs.Calls as call
use Rattle.stacked.specs.Stacks.{pulled, drained, step, stacked}

-- at one that is shut nothing ever waits
abbrev pub SilentIfShut : Type 0
SilentIfShut = (port : ℕ) (w : Whole) (f : Fault) → w.shut ≡ Some f → (ops : List Op) → stacked port w ops ≡ []

-- with any buffer that has room, a pull is the concentrator's own
abbrev pub PullsByCall : Type 0
PullsByCall = (w : Whole) (buffer : List ℕ) → short buffer ≡ false → pulled w ≡ call.pulled w buffer

-- and so is a tick, which is drained; one that is refused changes nothing
abbrev pub TicksByCall : Type 0
TicksByCall =
    (w : Whole) (reading : ℕ) (scratch : List ℕ) → short scratch ≡ false → step w (Tick reading) ≡ cond (is_ok (call.tick_said w reading scratch)) (drained (call.ticked w reading scratch)) w

-- after a tick that is not refused, no more frames are judged, or nothing waits at the feed below
abbrev pub DrainsAll : Type 0
DrainsAll =
    (w : Whole) (reading latest : ℕ) → Lawful w.feed → w.shut ≡ None → on.tick_said w.box reading ≡ Ok latest → (on.exhausted (step w (Tick reading)).box ≡ true) ⊎ ((step w (Tick reading)).feed [] ≡ [])
