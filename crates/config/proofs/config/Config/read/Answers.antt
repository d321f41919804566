use Rattle.std.proofs.Common.{◌≡◌, ◌-◌, length, sym, arith, rules}
use Rattle.std.proofs.lemmas.Result.{err_from_is_err_and}
use Rattle.fields.specs.Fields.{be16, be24}
use Rattle.config.proofs.Bodies.{body_stops}
use Rattle.config.proofs.config.Config.read.Goals as goal

pub returns-in_err-stations : goal.returns-in_err-stations
returns-in_err-stations c =
    let r = c.from_residual-in_err-stations in
    let body = c.args.body.now in
    let base : c.in_ok-time_base.time_base ≡ be24 body 1 = search rules in
    let count : c.in_ok-count.count ≡ be16 body 4 = search rules in
    let w =
    body_stops body c.args.most c.in_ok-time_base.time_base c.in_ok-count.count (length body - 2 - 6) c.in_err-stations.field-0.0
    (omega arith) base count (omega arith) (sym c.if-is_past_limits.ensures) (sym c.in_err-stations.ensures) in
    let p = err_from_is_err_and r.result r.ensures.1 in rw (p.1, p.2) (sym w)
