use Rattle.std.proofs.Common.{◌≡◌, ◌+◌, ◌-◌, ◌++◌, ◌∷◌, [], length, take, drop, sym, ap, ◌∙◌, arith, length-append}
use Rattle.std.proofs.lemmas.List.{take_rest}
use Rattle.std.proofs.lemmas.Result.{err_from_is_err_and}
use Rattle.std.proofs.lemmas.Bool.{eqb-true, eqb-false}
use Rattle.fixed.proofs.Pushes.{pushed-room}
use Rattle.config.specs.Stations.{part_length}
use Rattle.config.specs.Configs.{listed}
use Rattle.config.proofs.Walk.{walk_stops, walk_goes, walk_ends, walk_overruns}
use Rattle.config.proofs.read.read_stations.Goals as goal

pub returns-in_err-station : goal.returns-in_err-station
returns-in_err-station c =
    let w =
    walk_stops c.args.count c.loop-k.k c.loop-k.rest.now (listed c.loop-k.stations) c.in_err-station.field-0.0 c.loop-k-test.true
    (sym c.in_err-station.ensures) in
    let p = err_from_is_err_and c.from_residual.result c.from_residual.ensures.1 in rw (p.1, p.2) (sym w ∙ c.loop-k.invariant.1)

pub loop-k-preserved : goal.loop-k-preserved
loop-k-preserved c =
    let ss = listed c.loop-k.stations in
    let k = c.loop-k.k in
    let s = c.in_ok-station.station in
    let bs = c.loop-k.rest.now in
    let size = c.part_len.result in
    let rest : take (length bs - size) (drop size bs) ≡ drop (part_length s) bs = take_rest bs size ∙ ap (λ n. drop n bs) c.part_len.ensures in
    let more : listed c.push.new.self ≡ ss ++ s ∷ [] = c.push.ensures.items ∙ pushed-room 32 s ss (omega arith) in
    let w = walk_goes c.args.count k bs ss s c.loop-k-test.true (sym c.in_ok-station.ensures) in
    (ap length more ∙ length-append ss (s ∷ []) ∙ ap (λ n. n + 1) c.loop-k.invariant.0, cc)

pub returns-then-not-is_empty : goal.returns-then-not-is_empty
returns-then-not-is_empty c =
    let n : c.loop-k.k ≡ c.args.count = omega arith in
    let some = eqb-false (length c.loop-k.rest.now) 0 (sym c.if-not-is_empty.ensures) in
    let w = walk_overruns c.args.count c.loop-k.k c.loop-k.rest.now (listed c.loop-k.stations) c.loop-k-test.false some in
    cc

pub returns : goal.returns
returns c =
    let n : c.loop-k.k ≡ c.args.count = omega arith in
    let none = eqb-true (length c.loop-k.rest.now) 0 (sym c.if-not-is_empty.ensures) in
    let w = walk_ends c.args.count c.loop-k.k c.loop-k.rest.now (listed c.loop-k.stations) c.loop-k-test.false none in
    cc
