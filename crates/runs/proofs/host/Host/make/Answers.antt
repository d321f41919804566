use Rattle.std.proofs.Common.{rules}
use Rattle.runs.specs.Given.{request_of, standing}
use Rattle.runs.proofs.Listed.{one-kept, one-reached}
use Rattle.runs.proofs.host.Host.make.Goals as goal

pub returns-clause-goes_on : goal.returns-clause-goes_on
returns-clause-goes_on g c = one-reached (standing c.args.self.now) (standing c.perform.new.self) (request_of c.args.call) c.perform.result (search rules) (search rules)

pub returns-clause-law : goal.returns-clause-law
returns-clause-law g c = one-kept (standing c.args.self.now) (standing c.perform.new.self) (request_of c.args.call) c.perform.result (search rules) (search rules)
