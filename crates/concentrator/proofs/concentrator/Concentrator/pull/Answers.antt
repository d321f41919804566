use Rattle.std.proofs.Common.{◌≡◌, ◌≤◌, false, [], ◌∷◌, length, sym, ap, subst, arith, ltb-false}
use Rattle.feed.specs.declared.feed.Taken.{Taken}
use Rattle.feed.specs.Feeds.{AllCarried}
use Rattle.feed.proofs.Nexts.{came}
use Rattle.engine.specs.Calls.{exhausted}
use Rattle.engine.specs.Views.{box_of, state_of}
use Rattle.engine.proofs.Judged.{stopped}
use Rattle.engine.proofs.Shuts.{opens}
use Rattle.concentrator.proofs.Steps.{pull_steps}
use Rattle.concentrator.proofs.concentrator.Concentrator.pull.Goals as goal

pub returns : goal.returns
returns g c =
    let s = c.args.self.now in
    let e = s.engine in
    let close = g.P.Policy.closing s.policy in
    let m = (g.F.Feed.meaning s.feed).waits in
    let m' = (g.F.Feed.meaning c.next.new.self).waits in
    let o = opens e.terms.shut c.in_ok-check.field-0 c.in_ok-check.ensures in
    let few : exhausted (box_of e) ≡ false = (stopped (exhausted (box_of e)) _ _ tt (sym c.in_ok-check_count.ensures)).0 in
    let n = c.in_ok-taken.ensures in
    let a = c.admit-verdict.ensures in
    let p =
    pull_steps (state_of e) (state_of c.admit-verdict.new.self) close m m' o c.args.buffer.now c.next.new.buffer c.in_ok-taken.taken
    c.admit-verdict.result few (record { answer = n.answer; frame = n.frame; left = n.left }) a.answer a.next in
    let t = came (m []) c.args.buffer.now c.in_ok-taken.taken n.answer in
    let all : AllCarried (t.first ∷ t.others) = subst AllCarried t.waited ((g.F.Feed.meaning s.feed).lawful.carried []) in
    let few : length t.first.bytes ≤ 1040 = all.0.few in
    let room : 1040 ≤ length c.args.buffer.now = ltb-false (length c.args.buffer.now) 1040 t.room in
    let len : c.in_ok-taken.taken.len ≡ length t.first.bytes = ap (λ (x : Taken). x.len) t.told in
    record { answer = p.answer; fits = omega (arith, few, room, len); frame = p.frame; next = p.after }
