use Rattle.std.proofs.Common.{◌+◌}
use Rattle.plan.specs.Tables.{ports_of}
use Rattle.engine.proofs.Rings.{Bare, bare_held, bare_arrived, no_tally}
use Rattle.engine.proofs.engine.Engine.begin.Goals as goal

pub returns : goal.returns
returns c =
    let ps = ports_of c.args.terms.plan.table in
    let b : Bare c.empty.result = record { arrival = c.empty.ensures.arrival; present = c.empty.ensures.present } in
    let first = c.args.terms.first in
    let h = bare_held ps c.empty.result b (first + 0) in
    let a = bare_arrived ps c.empty.result b (first + 0) in
    cc (h, a, no_tally)
