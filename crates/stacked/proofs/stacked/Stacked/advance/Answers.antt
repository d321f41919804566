use Rattle.std.proofs.Common.{◌≡◌, true, false, is_ok, sym, ap, ◌∙◌, subst}
use Rattle.concentrator.specs.Wholes.{Whole, whole}
use Rattle.stacked.specs.Stacks.{drained, ticked, stacked}
use Rattle.stacked.specs.Later.{later_ticked}
use Rattle.stacked.specs.Reaches.{Reached, later-reached}
use Rattle.stacked.specs.Stackings.{whole-reached}
use Rattle.stacked.proofs.Ticks.{accepted, refused}
use Rattle.stacked.proofs.stacked.Stacked.advance.Given.{Over}
use Rattle.stacked.proofs.stacked.Stacked.advance.Goals as goal
use Rattle.stacked.proofs.stacked.Stacked.advance.Goals.{After-drain}

-- what an accepted tick leaves
stepped : (g : Over) (c : After-drain g) → whole c.drain.new.concentrator ≡ ticked (whole c.args.self.now.concentrator) c.args.reading
stepped g c =
    let w = whole c.args.self.now.concentrator in
    let yes : is_ok c.tick.result ≡ true = sym c.is_ok.ensures.value ∙ c.if-is_ok.true in
    c.drain.ensures
    ∙ (ap drained c.tick.ensures.next
    ∙ accepted w c.args.reading c.args.scratch.now c.requires.room (sym (ap is_ok c.tick.ensures.answer) ∙ yes))

pub invariant_of-self : goal.invariant_of-self
invariant_of-self g c =
    let s = c.args.self.now in
    let r = later-reached (later_ticked (whole s.concentrator) c.args.reading) (whole-reached s.concentrator s.free) in
    record { free = (subst Reached (sym (stepped g c)) r).free; line = s.line }

pub returns-then-is_ok : goal.returns-then-is_ok
returns-then-is_ok g c =
    let e = stepped g (goal.at.returns-then-is_ok g c).After-drain in
    record {
      left = ap (stacked c.args.self.now.port.0) e;
      shut = ap (λ (v : Whole). v.shut) e ∙ (later_ticked (whole c.args.self.now.concentrator) c.args.reading).shut;
    }

pub returns-else-is_ok-clause-left : goal.returns-else-is_ok-clause-left
returns-else-is_ok-clause-left g c =
    let no : is_ok c.tick.result ≡ false = sym c.is_ok.ensures.value ∙ c.if-is_ok.false in
    let r =
    refused (whole c.args.self.now.concentrator) c.args.reading c.args.scratch.now c.requires.room
    (sym (ap is_ok c.tick.ensures.answer) ∙ no) in
    ap (stacked c.args.self.now.port.0) (c.tick.ensures.next ∙ (r.call ∙ sym r.step))
