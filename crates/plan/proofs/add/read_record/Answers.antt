use Rattle.std.proofs.Common.{rules}
use Rattle.wire.proofs.Headed.{header-id}
use Rattle.plan.specs.Plans.{asked}
use Rattle.plan.proofs.add.read_record.Goals as goal

pub returns-in_err-header : goal.returns-in_err-header
unfolding asked
returns-in_err-header c = search rules

pub returns-in_err-body : goal.returns-in_err-body
unfolding asked
returns-in_err-body c = search rules

pub returns : goal.returns
unfolding asked
returns c =
    let id = header-id c.args.bytes.now c.in_ok-header.header c.in_ok-header.ensures.header in
    search rules
