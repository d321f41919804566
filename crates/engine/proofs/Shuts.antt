-- What a passed check of an engine tells.
use Rattle.std.proofs.Common.{◌≡◌, Some, None, Ok, Option, sym, refl, ap}
use Rattle.common.specs.declared.fault.Fault.{Fault}
use Rattle.engine.specs.Boxes.{Box}
use Rattle.engine.specs.Calls.{if_open, unless_shut}
use Rattle.engine.specs.States.{State, with_box, left}

pub opens : (o : Option Fault) (u : Unit {0}) → Ok u ≡ unless_shut o (Ok tt) → o ≡ None
opens None u e = refl
opens (Some f) u e = cc

-- what a call leaves of an engine that is not shut
pub left_open : (e : State) (b : Box) → e.shut ≡ None → with_box e b ≡ left e b
left_open e b o = ap (λ (x : Option Fault). with_box e (if_open x e.box b)) (sym o)
