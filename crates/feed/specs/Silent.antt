-- The silent feed: nothing ever waits.
use Rattle.std.specs.Prelude.{[], refl}
use Rattle.feed.specs.Feeds.{Behaviour, within_none, Lawful, Meaning}

-- nothing waits, whatever is done
abbrev pub silence : Behaviour
silence = λ ops. []

-- a feed at which nothing ever waits is lawful
pub silence-lawful : Lawful silence
silence-lawful =
    record { ticked = λ ops r. within_none; nexted = λ ops. refl; idle = λ ops more e. refl; carried = λ ops. tt }

-- what a feed means at which nothing ever waits
abbrev pub silent : Meaning
silent = record { waits = silence; lawful = silence-lawful }
