use Rattle.replay.proofs.Leading.{led-next}
use Rattle.replay.proofs.wired.WiredFeed.next.Goals as goal

pub returns : goal.returns
returns g c =
    let m = (g.F.Feed.meaning c.args.self.now.feed).waits in
    let m' = (g.F.Feed.meaning c.next.new.self).waits in
    let a = c.in_ok-taken.ensures in
    let n = led-next c.args.self.now.lines.now m m' c.args.buffer.now c.next.new.buffer c.in_ok-taken.taken c.port_of.result
    (record { answer = a.answer; frame = a.frame; left = a.left }) c.port_of.ensures in
    record { answer = n.answer; frame = n.frame; left = n.left }
