-- A feed means what the chosen one means.
use Rattle.feed.specs.Feeds.{Meaning}
use Rattle.feed.specs.Joined.{both}
use Rattle.feed.specs.Maps.{through}
use Rattle.feed.specs.Silent.{silent}
use Rattle.recorded.specs.Recordings.{meaning_of}
use Rattle.shift.specs.Lines.{by_line}
use Rattle.stacked.specs.Stackings.{meaning_of as meaning_under}
use Rattle.choice.specs.declared.any_feed.AnyFeed.{AnyFeed}
use Rattle.choice.specs.declared.any_feed.AnyFeed.TheVariants.{Silent, Recorded, Joined, Shifted, Stacked}

-- what a feed means that was chosen among five kinds: what that kind of feed means by itself
abbrev pub meaning_by : AnyFeed → Meaning
meaning_by (Silent f) = silent
meaning_by (Recorded f) = meaning_of f
meaning_by (Joined f) = both (meaning_of f.first) (meaning_of f.second)
meaning_by (Shifted f) = through (by_line f.map.seconds) (meaning_of f.feed)
meaning_by (Stacked f) = meaning_under f
