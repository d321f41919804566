use Rattle.std.proofs.Common.{◌≡◌, sym, ap, ◌∙◌}
use Rattle.feed.specs.Calls.{tick_left}
use Rattle.stacked.specs.Stackings.{meaning_of}
use Rattle.choice.specs.declared.any_feed.AnyFeed.{AnyFeed}
use Rattle.choice.specs.Feeds.{meaning_by}
use Rattle.choice.proofs.any_feed.AnyFeedFeed.tick.Goals as goal

-- what the concentrator's own tick leaves
pub returns-in-Stacked-clause-left : goal.returns-in-Stacked-clause-left
returns-in-Stacked-clause-left c =
    let left : (meaning_of c.tick-in-Stacked.new.self).waits ≡ tick_left (meaning_of c.in-Stacked.feed).waits c.args.reading c.args.scratch.now = search (c.tick-in-Stacked.ensures.left) in
    left ∙ sym (ap (λ (f : AnyFeed). tick_left (meaning_by f).waits c.args.reading c.args.scratch.now) c.in-Stacked.is)
