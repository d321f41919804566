use Rattle.std.proofs.Common.{◌<◌, div-lt_iff_lt-mul, arith}
use Rattle.std.proofs.lemmas.Grind.{common_steps}
use Rattle.slots.specs.Slots.{soc_of}
use Rattle.slots.proofs.rate.Rate.slot_soc.Goals as goal

pub returns-clause-whole : goal.returns-clause-whole
returns-clause-whole c h =
    let small : soc_of c.args.self.frames c.args.slot < 4294967296 = (div-lt_iff_lt-mul c.args.self.some).1 h in grind (arith, common_steps)
