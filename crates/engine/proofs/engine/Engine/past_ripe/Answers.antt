use Rattle.std.proofs.Common.{◌≡◌, ◌+◌, ◌-◌, ◌*◌, ◌≤◌, ◌∙◌, refl, arith, rules, tests}
use Rattle.std.specs.Option.{option_map_or}
use Rattle.std.specs.Iterator.Adapters.{rev_source}
use Rattle.std.proofs.lemmas.Iterator.Search.{find_from_yields_List}
use Rattle.slots.specs.Slots.{frames_of}
use Rattle.engine.specs.Boxes.{upto}
use Rattle.engine.specs.Closing.{ripe}
use Rattle.engine.specs.Views.{setting_of, box_of}
use Rattle.engine.proofs.Fronts.{near, backwards, told-highest, highest-within}
use Rattle.engine.proofs.engine.Engine.past_ripe.Goals as goal

pub returns-clause-value : goal.returns-clause-value
returns-clause-value g c =
    let s = c.args.self.now in
    let t = ripe (g.P.Policy.closing c.args.policy.now) (setting_of s) (box_of s) in
    let k = upto (setting_of s) s.latest in
    let end = c.last_slot_by-end.ensures.answer in
    let found =
    find_from_yields_List t _ _ c.find.result c.find.ensures.ran (backwards rev_source s.front (c.last_slot_by-end.result + 1) (k - s.front) c.rev.ensures.source (omega (arith, end))) (λ x b q r. search (rules, tests)) in
    let mapped : c.map_or.result ≡ option_map_or (λ m. m + 1) c.find.result s.front = search rules in
    mapped ∙ told-highest t c.find.result (k - s.front) s.front k found refl

pub returns-clause-near : goal.returns-clause-near
returns-clause-near g c =
    let s = c.args.self.now in
    let t = ripe (g.P.Policy.closing c.args.policy.now) (setting_of s) (box_of s) in
    let k = upto (setting_of s) s.latest in
    let value = returns-clause-value g c in
    let within = highest-within t k in
    let low : k ≤ 4000000001 * frames_of s.terms.rate = near (frames_of s.terms.rate) s.latest s.terms.rate.some (omega (arith, s.time)) in
    omega (arith, value, within, low, s.near)
