use Rattle.std.proofs.Common.{◌≡◌, refl, arith}
use Rattle.crc.specs.CheckWord.{shift, taken}
use Rattle.worked.proofs.worked_policy.Goals as goal

pub returns : goal.returns
unfolding shift taken
returns c =
    let p = c.new.result in
    let after : p.after_arrival ≡ 20000 = omega arith in
    let wait : p.wait ≡ 150000 = omega arith in
    let closings = c.new.ensures.worked after wait in
    record {
      check = refl;
      lengths = λ id. (refl, refl);
      slots = record { own = refl; rounded = refl; early = refl; last = refl; first = refl; fits = refl; exceeds = refl };
      early = closings.0;
      late = closings.1;
      latest = closings.2;
      none = closings.3;
    }
