use Rattle.std.proofs.Common.{◌≡◌, Ok, ◌∙◌}
use Rattle.feed.specs.Calls.{short}
use Rattle.feed.proofs.Nexts.{by-room}
use Rattle.engine.specs.Views.{state_of}
use Rattle.engine.proofs.Shuts.{opens}
use Rattle.concentrator.proofs.Steps.{tick_said_lem, tick-next}
use Rattle.concentrator.proofs.concentrator.Concentrator.tick.Goals as goal

pub returns-clause-next : goal.returns-clause-next
returns-clause-next g c =
    let s = c.args.self.now in
    let e = s.engine in
    let close = g.P.Policy.closing s.policy in
    let m = (g.F.Feed.meaning s.feed).waits in
    let m' = (g.F.Feed.meaning c.tick-2.new.self).waits in
    let o = opens e.terms.shut c.in_ok-check.field-0 c.in_ok-check.ensures in
    let room = (by-room (short c.args.scratch.now) (Ok tt) tt c.in_ok-check_room.ensures).0 in
    let k = c.in_ok-latest.ensures in
    search (tick-next (state_of e) (state_of c.tick.new.self) close m m' o c.args.reading c.in_ok-latest.latest c.args.scratch.now room k.answer k.next c.tick-2.ensures.left)

pub returns-clause-answer : goal.returns-clause-answer
returns-clause-answer g c =
    let e = c.args.self.now.engine in
    let close = g.P.Policy.closing c.args.self.now.policy in
    let m = (g.F.Feed.meaning c.args.self.now.feed).waits in
    let o = opens e.terms.shut c.in_ok-check.field-0 c.in_ok-check.ensures in
    let room = (by-room (short c.args.scratch.now) (Ok tt) tt c.in_ok-check_room.ensures).0 in
    let said = tick_said_lem (state_of e) (state_of c.tick.new.self) close m m o c.args.reading c.in_ok-latest.latest c.args.scratch.now room c.in_ok-latest.ensures.answer in
    let fine : c.tick-2.result ≡ Ok tt = c.tick-2.ensures.answer ∙ rw room in
    search (fine ∙ said)
