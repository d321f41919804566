use Rattle.std.proofs.Common.{sym, ap, ◌∙◌}
use Rattle.feed.specs.Calls.{next_left}
use Rattle.choice.specs.declared.any_feed.AnyFeed.{AnyFeed}
use Rattle.choice.specs.Feeds.{meaning_by}
use Rattle.choice.proofs.any_feed.AnyFeedFeed.next.Goals as goal

-- what the concentrator's own next leaves
pub returns-in-Stacked-clause-left : goal.returns-in-Stacked-clause-left
returns-in-Stacked-clause-left c =
    c.next-in-Stacked.ensures.left
    ∙ sym (ap (λ (f : AnyFeed). next_left (meaning_by f).waits c.args.buffer.now) c.in-Stacked.is)
