use Rattle.std.proofs.Common.{sym, ap, ◌∙◌, arith}
use Rattle.plan.specs.Ports.{station_count, body_length, body_spans, parts_length}
use Rattle.plan.proofs.plan.Plan.begin.Goals as goal

pub invariant_of-result : goal.invariant_of-result
invariant_of-result c =
    let e = c.no_ports.ensures in
    record {
      spanned = c.new.ensures ∙ sym (ap body_spans e);
      counted = omega (arith, ap station_count e);
      measured = omega (arith, ap body_length e);
      filled = omega (arith, ap parts_length e);
      few = omega arith;
      narrow = omega arith;
      bounded = omega arith;
    }

pub returns : goal.returns
returns c = ap (λ ps. record { id = c.args.id.0; rate = c.args.rate; ports = ps }) c.no_ports.ensures
