use Rattle.std.proofs.Common.{rules, ◌<◌}
use Rattle.crc.proofs.Linear.{by_word}
use Rattle.crc.proofs.Pending.last.Goals as goal

pub returns : goal.returns
returns c =
    let r = c.args.self.register in
    let w = c.word-high.result in
    let few : r.low < 256 = search rules in
    let fits : w.low < 256 = search rules in
    let e = by_word r.high r.low c.args.self.byte w.high w.low few fits c.word-high.ensures in cc
