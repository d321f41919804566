use Rattle.std.proofs.Common.{◌≡◌, ℕ, ◌+◌, ◌<◌, eqb, length, get_or, ap, ◌∙◌, add-one, arith}
use Rattle.engine.specs.Calls.{one, verdict_number_of}
use Rattle.engine.proofs.Tallies.{raised_counts}
use Rattle.engine.proofs.engine.Engine.count.Goals as goal

pub returns : goal.returns
returns c =
    let s = c.args.self.now in
    let i = c.from-i.result in
    let few = c.verdict_number.ensures.few in
    let within : i < length s.tally = omega (arith, few, c.from-i.ensures, s.numbers) in
    let number : i ≡ verdict_number_of c.args.verdict = c.from-i.ensures ∙ c.verdict_number.ensures.value in
    let counts = raised_counts s.tally i within in
    let by : ℕ → ℕ → ℕ = λ k u. get_or s.tally u 0 + one (eqb k u) in
    let own = ap by number in
    cc (counts, own, add-one s.judged)
