use Rattle.std.proofs.Common.{◌*◌, sym, ap, div-add-mod', arith}
use Rattle.slots.proofs.rate.Rate.slots_in.Goals as goal

pub returns : goal.returns
returns c = let e = ap (λ x. x * c.args.self.frames) (sym (div-add-mod' c.args.time 1000000)) in omega arith
