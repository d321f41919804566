-- A body whose stations cannot be read.
use Rattle.std.proofs.Common.{◌≡◌, ℕ, ◌-◌, ◌≤◌, false, cond, ltb, List, length, take, drop, Err, Result, sym, ap, ◌∙◌}
use Rattle.std.proofs.lemmas.Bool.{cond-false, le-ltb}
use Rattle.common.specs.declared.fault.Fault.{Fault}
use Rattle.common.specs.declared.fault.Fault.TheVariants.{StationLength, StationLimit}
use Rattle.fields.specs.Fields.{be16, be24}
use Rattle.config.specs.Stations.{stations_in}
use Rattle.config.specs.Configs.{Says, configured, past_limits, saying, parts_of}

pub body_stops : (body : List ℕ) (most base count k : ℕ) (e : Fault) → 8 ≤ length body → base ≡ be24 body 1 → count ≡ be16 body 4 → k ≡ length body - 8 → past_limits base count most ≡ false → stations_in count 0 (take k (drop 6 body)) ≡ Err e → configured body most ≡ Err e
body_stops body most base count k e h b n l past stops =
    let rest : Result Says Fault = saying (be24 body 1) (be16 body (length body - 2)) (stations_in (be16 body 4) 0 (parts_of body)) in
    let past' : past_limits (be24 body 1) (be16 body 4) most ≡ false = ap (λ x. past_limits x (be16 body 4) most) (sym b) ∙ (ap (λ x. past_limits base x most) (sym n) ∙ past) in
    let stops' : stations_in (be16 body 4) 0 (parts_of body) ≡ Err e =
    ap (λ x. stations_in x 0 (parts_of body)) (sym n) ∙ (ap (λ x. stations_in count 0 (take x (drop 6 body))) (sym l) ∙ stops) in
    cond-false (ltb (length body) 8) (Err (StationLength 0)) (cond (past_limits (be24 body 1) (be16 body 4) most) (Err (StationLimit 0)) rest) (le-ltb (length body) 8 h)
    ∙ (cond-false (past_limits (be24 body 1) (be16 body 4) most) (Err (StationLimit 0)) rest past'
    ∙ ap (saying (be24 body 1) (be16 body (length body - 2))) stops')
