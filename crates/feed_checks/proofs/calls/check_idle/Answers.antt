use Rattle.std.proofs.Common.{rules, []}
use Rattle.feed_checks.proofs.Found.{dry, if_ok}
use Rattle.feed_checks.proofs.calls.check_idle.Goals as goal

pub returns-clause-idle : goal.returns-clause-idle
returns-clause-idle g c = if_ok c.check_filled.result (dry ((g.F.Feed.meaning c.args.feed.now).waits []) (search rules))
