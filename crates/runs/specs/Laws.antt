-- The law over runs, of lists of calls on the model, over any closings within a bound and any feed that can be thought of.
use Rattle.std.specs.Prelude.{ℕ, List}
use Rattle.plan.specs.Plans.{PlanOf}
use Rattle.feed.specs.Feeds.{Behaviour}
use Rattle.engine.specs.Boxes.{Closing}
use Rattle.engine.specs.Calls.{open_setting}
use Rattle.concentrator.specs.Wholes.{begins}
use Rattle.laws.specs.Journal.{start}
use Rattle.laws.specs.Answers.{Right}
use Rattle.laws.specs.Laws.{Runs}
use Rattle.laws.specs.Machine.{onto}
use Rattle.runs.specs.Settings.{Opened, setting}
use Rattle.runs.specs.Opens.{Opens}
use Rattle.runs.specs.Requests.{Request}
use Rattle.runs.specs.Entries.{all_due}
use Rattle.runs.specs.Events.{events_of}

-- the law's setting of what opened, in which each list of calls, over any feed, is answered as is due; and the law holds there
pub record Answered (p : PlanOf) (closing : Closing) (bound reading : ℕ) : Type 0 where
  pub facts : Opened (open_setting p reading) closing bound reading
  pub answered : (B : Behaviour) (rs : List Request) →
      Right (setting (open_setting p reading) closing bound reading facts) B (onto start (events_of (all_due (begins p reading closing B) rs)))
  pub law : Runs (setting (open_setting p reading) closing bound reading facts)

-- whatever plan opens, under any closings from the stamp to the stamp plus a bound, and over any feed, every list of calls is answered as is due, and the law holds of it
abbrev pub CallsKeepTheLaw : Type 0
CallsKeepTheLaw = (p : PlanOf) (closing : Closing) (bound reading : ℕ) → Opens p closing bound reading → Answered p closing bound reading
