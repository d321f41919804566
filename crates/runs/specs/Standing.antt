-- Runs of a concentrator from its opening, and what the law says of them.
use Rattle.std.specs.Prelude.{◌≡◌, ℕ, List, take}
use Rattle.plan.specs.Plans.{PlanOf}
use Rattle.feed.specs.Feeds.{Behaviour, Lawful}
use Rattle.engine.specs.Boxes.{Closing}
use Rattle.engine.specs.Calls.{open_setting}
use Rattle.concentrator.specs.Wholes.{Whole, begins}
use Rattle.laws.specs.Setting as law
use Rattle.laws.specs.Journal.{Journal, start, ◌▹◌}
use Rattle.runs.specs.Settings.{setting}
use Rattle.laws.specs.Machine.{onto}
use Rattle.runs.specs.Opens.{Opens, opened-facts}
use Rattle.runs.specs.Requests.{Request, leaves}
use Rattle.runs.specs.declared.call.Call.{Call}
use Rattle.runs.specs.Entries.{due, all_due, left_by}
use Rattle.runs.specs.Events.{event_of, events_of}
use Rattle.runs.specs.Given.{requests_of}

-- an opening that no refusal shuts: a plan, a policy's closings and bound, a reading, and what a feed means
pub record Opening : Type 0 where
  pub plan : PlanOf
  pub closing : Closing
  pub bound : ℕ
  pub reading : ℕ
  pub feed : Behaviour
  pub lawful : Lawful feed
  pub opens : Opens plan closing bound reading

-- the law's setting of an opening
abbrev pub setting_in : Opening → law.Setting
setting_in o = setting (open_setting o.plan o.reading) o.closing o.bound o.reading (opened-facts o.plan o.closing o.bound o.reading o.opens)

-- a run from an opening: its journal, and the concentrator that it leaves
pub data Reached (o : Opening) : Journal → Whole → Type 0 where
  opened : Reached o start (begins o.plan o.reading o.closing o.feed)
  called : {J : Journal} {w : Whole} → Reached o J w → (r : Request) → Reached o (J ▹ event_of (due w r)) (leaves w r)

-- a concentrator that is just opened with these
pub record JustOpened (p : PlanOf) (closing : Closing) (bound reading : ℕ) (feed : Behaviour) (w : Whole) : Type 0 where
  pub opening : Opening
  pub plan : opening.plan ≡ p
  pub closes : opening.closing ≡ closing
  pub within : opening.bound ≡ bound
  pub at : opening.reading ≡ reading
  pub over : opening.feed ≡ feed
  pub reached : Reached opening start w

-- a concentrator that is left once some of the calls were made, from the first on; a run goes on from there
pub record LeftBySome (w : Whole) (cs : List Call) (left : Whole) : Type 0 where
  pub made : ℕ
  pub so : left ≡ left_by w (requests_of (take made cs))
  pub goes_on : (o : Opening) (before : Journal) → Reached o before w → Reached o (onto before (events_of (all_due w (requests_of (take made cs))))) left
