use Rattle.std.proofs.Common.{◌≤◌, length, sym, arith}
use Rattle.std.proofs.lemmas.List.{length-take-le}
use Rattle.recorded.specs.Recordings.{meaning_of}
use Rattle.replay.proofs.Taking.{taken-fits, fewer_wait}
use Rattle.replay.proofs.arrivals.take_due.Goals as goal
use Rattle.replay.proofs.arrivals.take_due.Goals.{In-Ok}

-- the frame lies within the buffer
fits : (c : In-Ok) → c.in-Ok.taken.len ≤ length c.next.new.buffer
fits c =
    let m = meaning_of c.loop-taken.feed in
    let l = taken-fits m.waits c.loop-taken.buffer c.in-Ok.taken m.lawful c.in-Ok.ensures.answer in
    omega (arith, l)

pub slice_bounds-buffer-end : goal.slice_bounds-buffer-end
slice_bounds-buffer-end c = fits c

pub slice_bounds-to_vec-end : goal.slice_bounds-to_vec-end
slice_bounds-to_vec-end c =
    sym (length-take-le c.in-Ok.taken.len c.next.new.buffer (fits (goal.at.slice_bounds-to_vec-end c).In-Ok))

pub loop-taken-smaller : goal.loop-taken-smaller
loop-taken-smaller c =
    let m = meaning_of c.loop-taken.feed in
    let e = c.in-Ok.ensures in
    fewer_wait m.waits c.loop-taken.buffer c.in-Ok.taken m.lawful e.answer (meaning_of c.next.new.self).waits e.left
