use Rattle.std.proofs.Common.{rules}
use Rattle.plan.specs.Views.{plan_of}
use Rattle.runs.proofs.Begun.{just-opened}
use Rattle.runs.proofs.host.Host.reopen.Goals as goal

pub returns-clause-opens : goal.returns-clause-opens
returns-clause-opens g c shut =
    just-opened (plan_of c.args.plan.now) (g.P.Policy.closing c.args.policy) (g.P.Policy.bound c.args.policy) c.args.reading (g.F.Feed.meaning c.args.feed) _
    (record { unrefused = search rules; from = λ t a. g.met.P.Policy.from c.args.policy t a; within = λ t a. g.met.P.Policy.upto c.args.policy t a })
    (c.reopen.ensures.opens shut)
