use Rattle.std.proofs.Common.{◌≡◌, ℕ, ◌-◌, ◌≤◌, List, length, take, drop, sym, ap, ◌∙◌, arith, rules}
use Rattle.plan.specs.Plans.{parts_in}
use Rattle.plan.specs.Tables.{port_of}
use Rattle.plan.proofs.Asked.{AskedFacts, asked_exact}
use Rattle.plan.proofs.add.read_request.Goals as goal

-- the parts of the frame, as the code cuts them
cut : (bytes : List ℕ) → take (length bytes - 4 - 20) (drop 20 bytes) ≡ parts_in bytes
cut bytes = let e : length bytes - 4 - 20 ≡ length bytes - 24 = omega arith in ap (λ k. take k (drop 20 bytes)) e

facts : (c : goal.In_ok-port) → AskedFacts c.args.bytes.now (port_of c.in_ok-port.port)
facts c = asked_exact c.args.rate c.args.bytes.now (port_of c.in_ok-port.port) (sym c.in_ok-port.ensures)

pub overflow_sub-parts : goal.overflow_sub-parts
overflow_sub-parts c = omega (arith, (facts c).long)

pub slice_bounds-parts-count : goal.slice_bounds-parts-count
slice_bounds-parts-count c = omega (arith, (facts c).long)

pub slice_bounds-parts-start : goal.slice_bounds-parts-start
slice_bounds-parts-start c = let k : 20 ≤ length c.args.bytes.now - 4 = omega (arith, (facts c).long) in search rules

pub invariant_of-result : goal.invariant_of-result
invariant_of-result c =
    let f = asked_exact c.args.rate c.args.bytes.now (port_of c.in_ok-port.port) (sym c.in_ok-port.ensures) in
    let e = ap length (cut c.args.bytes.now) ∙ f.parts in
    record { measured = e; bounded = omega (arith, e, f.bound) }
