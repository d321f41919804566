use Rattle.std.proofs.Common.{◌+◌, ◌-◌, ◌*◌, ◌≤◌, not, ◌∙◌, refl, arith, rules, tests}
use Rattle.std.proofs.lemmas.Iterator.{YieldsList-from_range}
use Rattle.std.proofs.lemmas.Iterator.Search.{find_from_yields_List}
use Rattle.slots.specs.Slots.{frames_of}
use Rattle.engine.specs.Boxes.{upto}
use Rattle.engine.specs.Closing.{complete}
use Rattle.engine.specs.Views.{setting_of, box_of}
use Rattle.engine.proofs.Fronts.{near, told-beyond, beyond-within}
use Rattle.engine.proofs.engine.Engine.past_complete.Goals as goal

pub returns-clause-value : goal.returns-clause-value
returns-clause-value c =
    let s = c.args.self.now in
    let g = setting_of s in
    let t = complete g (box_of s) in
    let f = c.args.from in
    let k = upto g (s.latest + 100000) in
    let end = s.reached in
    let found =
    find_from_yields_List (λ n. not (t n)) _ _ c.find.result c.find.ensures.ran (YieldsList-from_range f (s.reach + 1) (k - f) refl (omega (arith, end))) (λ x b q r. search (rules, tests)) in
    c.unwrap_or.ensures ∙ told-beyond t c.find.result (k - f) f c.max.result found (omega (arith, end, c.max.ensures))

pub returns-clause-near : goal.returns-clause-near
returns-clause-near c =
    let s = c.args.self.now in
    let g = setting_of s in
    let f = c.args.from in
    let k = upto g (s.latest + 100000) in
    let value = returns-clause-value c in
    let within = beyond-within (complete g (box_of s)) (k - f) f in
    let low : k ≤ 4000000001 * frames_of s.terms.rate = near (frames_of s.terms.rate) (s.latest + 100000) s.terms.rate.some (omega (arith, s.time)) in
    omega (arith, value, within, low, c.requires)
