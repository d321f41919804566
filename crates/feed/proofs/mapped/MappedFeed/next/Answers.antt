use Rattle.feed.proofs.Nexts.{map_next}
use Rattle.feed.proofs.mapped.MappedFeed.next.Goals as goal

pub returns : goal.returns
returns g c =
    let m = (g.F.Feed.meaning c.args.self.now.feed).waits in
    let m' = (g.F.Feed.meaning c.next.new.self).waits in
    let a = c.in_ok-taken.ensures in
    let n = map_next (g.M.FrameMap.map c.args.self.now.map) m m' c.args.buffer.now c.next.new.buffer c.apply.new.frame c.in_ok-taken.taken
    (record { answer = a.answer; frame = a.frame; left = a.left }) (search c.apply.ensures) in
    record { answer = n.answer; frame = n.frame; left = n.left }
