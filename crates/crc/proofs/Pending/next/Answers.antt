use Rattle.std.proofs.Common.{rules, ◌<◌}
use Rattle.crc.proofs.Linear.{by_table_next}
use Rattle.crc.proofs.Pending.next.Goals as goal

pub returns : goal.returns
returns c =
    let few : c.args.self.register.low < 256 = search rules in
    let e = by_table_next c.args.self.register.high c.args.self.register.low c.args.self.byte c.args.byte few in cc
