use Rattle.std.proofs.Common.{div-lt_iff_lt-mul, arith}
use Rattle.slots.proofs.Stamped.{own-second, stamps_rise}
use Rattle.slots.proofs.rate.Rate.stamp.Goals as goal

pub returns-clause-answer : goal.returns-clause-answer
returns-clause-answer c = let own = own-second c.args.self.frames c.args.slot c.args.self.some in omega arith

pub returns-clause-whole : goal.returns-clause-whole
returns-clause-whole c h =
    let own = own-second c.args.self.frames c.args.slot c.args.self.some in
    let small = (div-lt_iff_lt-mul c.args.self.some).1 h in omega arith

pub returns-clause-laws : goal.returns-clause-laws
returns-clause-laws c = (stamps_rise, own-second)
