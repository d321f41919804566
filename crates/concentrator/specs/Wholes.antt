-- A concentrator as a whole: why it is shut, if it is, what never changes, its slots, and its feed.
use Rattle.std.specs.Prelude.{ℕ, None, Option}
use Rattle.common.specs.declared.fault.Fault.{Fault}
use Rattle.plan.specs.Plans.{PlanOf}
use Rattle.feed.specs.Feeds.{Behaviour}
use Rattle.feed.specs.declared.feed.Feed as feed
use Rattle.policy.specs.declared.policy.Policy as policy
use Rattle.engine.specs.Boxes.{Setting, Closing, Box}
use Rattle.engine.specs.Calls.{open_setting, opened}
use Rattle.engine.specs.States.{State}
use Rattle.engine.specs.Views.{state_of}
use Rattle.concentrator.specs.declared.concentrator.Concentrator.{Concentrator}

-- all that the calls depend on: why it is shut, if it is, what never changes, when slots close, what changes, and what the feed gives from here on
pub record Whole : Type 0 where
  pub shut : Option Fault
  pub setting : Setting
  pub closing : Closing
  pub box : Box
  pub feed : Behaviour

-- an engine with a policy's closings and a feed's behaviour beside it, as one concentrator
abbrev pub joined : State → Closing → Behaviour → Whole
joined e closing feed = record { shut = e.shut; setting = e.setting; closing = closing; box = e.box; feed = feed }

-- what a concentrator stands for, by what its feed means and when its policy closes slots
abbrev pub whole : {F P : Type 0} {f : feed.Ghosts F} {p : policy.Ghosts P} → Concentrator F P f p → Whole
whole {f = f} {p = p} c = joined (state_of c.engine) (p.closing c.policy) (f.meaning c.feed).waits

-- a concentrator with other slots and another feed
abbrev pub moved : Whole → Box → Behaviour → Whole
moved w b f = record { shut = w.shut; setting = w.setting; closing = w.closing; box = b; feed = f }

-- a concentrator that is opened, and not shut, with a plan, a reading, a policy's closings and a feed
abbrev pub begins : PlanOf → ℕ → Closing → Behaviour → Whole
begins p reading closing feed =
    record { shut = None; setting = open_setting p reading; closing = closing; box = opened closing (open_setting p reading) reading; feed = feed }
