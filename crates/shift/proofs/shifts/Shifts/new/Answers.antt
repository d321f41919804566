use Rattle.std.proofs.Common.{◌≡◌, ℕ, ◌<◌, map, get_or, pos, sym, ◌∙◌, arith, rules}
use Rattle.std.proofs.lemmas.List.{ext_get_or, length-map, get_or-map}
use Rattle.shift.specs.Shifts.{held}
use Rattle.shift.proofs.Moves.{sound-moves, zero_stays, zero_layer}
use Rattle.shift.proofs.shifts.Shifts.new.Goals as goal

pub returns-clause-value : goal.returns-clause-value
returns-clause-value c =
    let zs = c.args.seconds in
    let m = c.map.ensures.items in
    let long = m.long in
    let l = length-map zs held in
    let each : (i : ℕ) → i < 16 → get_or c.map.result i (pos 0) ≡ held (get_or zs i (pos 0)) =
    (λ i h. let called = (m.at i (pos 0) (pos 0) h).2 in search rules) in
    ext_get_or (pos 0) c.map.result (map held zs) (omega (arith, long, l))
    (λ i h. each i (omega (arith, long)) ∙ sym (get_or-map held zs i (pos 0) (pos 0) (omega (arith, long))))

pub returns-clause-moves : goal.returns-clause-moves
returns-clause-moves c = sound-moves

pub returns-clause-zero : goal.returns-clause-zero
returns-clause-zero c = (zero_stays, zero_layer)
