use Rattle.std.proofs.Common.{ap, ◌∙◌, rules}
use Rattle.capture.specs.Records.{leading}
use Rattle.recorded.specs.Recordings.{queue_of, due_by, parted, untaken}
use Rattle.recorded.proofs.Places.{ticked}
use Rattle.recorded.proofs.Room.{roomy, ticked-on}
use Rattle.recorded.proofs.calls.RecordedFeed.tick.Goals as goal

pub returns-clause-left : goal.returns-clause-left
unfolding leading
returns-clause-left c =
    let s = c.args.self.now in
    let es = untaken s.records in
    let room = roomy c.args.scratch.now (search rules) in
    let left =
    ticked-on (queue_of s) c.args.reading c.args.scratch.now room
    (ap (λ latest. parted (due_by latest es) es) c.max-self.ensures ∙ ticked s.latest c.args.reading es) in
    search (rules, left)
