use Rattle.std.proofs.Common.{◌≡◌, ◌<◌, true, false, ltb, [], length, is_ok, sym, ap, ◌∙◌, arith}
use Rattle.concentrator.specs.Wholes.{Whole, whole}
use Rattle.stacked.specs.Stacks.{pulled, drained}
use Rattle.stacked.proofs.Drains.{as_pulled, stops, goes}
use Rattle.stacked.proofs.steps.drain.Goals as goal

pub returns : goal.returns
returns g c =
    let w = whole c.loop.concentrator in
    let room = c.loop.invariant.room in
    let refused : is_ok c.pull.result ≡ false = sym c.is_ok.ensures.value ∙ c.loop-test.false in
    let s = stops w c.loop.scratch room c.pull.result refused c.pull.ensures.answer in
    c.pull.ensures.next ∙ (as_pulled w c.loop.scratch room ∙ (s.same ∙ (sym s.last ∙ c.loop.invariant.left)))

pub loop-preserved : goal.loop-preserved
loop-preserved g c =
    let w = whole c.loop.concentrator in
    let room = c.loop.invariant.room in
    let done : is_ok c.pull.result ≡ true = sym c.is_ok.ensures.value ∙ c.loop-test.true in
    let s = goes w c.loop.scratch room ((g.F.Feed.meaning c.loop.concentrator.feed).lawful) c.pull.result done c.pull.ensures.answer in
    record {
      room = ap (λ n. ltb n 1040) c.pull.auto.buffer ∙ room;
      left = ap drained (c.pull.ensures.next ∙ as_pulled w c.loop.scratch room) ∙ (s.left ∙ c.loop.invariant.left);
    }

pub loop-smaller : goal.loop-smaller
loop-smaller g c =
    let w = whole c.loop.concentrator in
    let room = c.loop.invariant.room in
    let done : is_ok c.pull.result ≡ true = sym c.is_ok.ensures.value ∙ c.loop-test.true in
    let s = goes w c.loop.scratch room ((g.F.Feed.meaning c.loop.concentrator.feed).lawful) c.pull.result done c.pull.ensures.answer in
    let fewer : length ((pulled w).feed []) < length (w.feed []) = s.fewer in
    let same : length ((whole c.pull.new.self).feed []) ≡ length ((pulled w).feed []) = ap (λ (v : Whole). length (v.feed [])) (c.pull.ensures.next ∙ as_pulled w c.loop.scratch room) in
    omega (arith, fewer, same)
