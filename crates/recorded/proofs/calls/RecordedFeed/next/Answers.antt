use Rattle.std.proofs.Common.{◌≡◌, ◌≤◌, length, Some, sym, ap, ◌∙◌, arith, rules}
use Rattle.std.proofs.lemmas.Bool.{ltb-false}
use Rattle.std.specs.Option.{option_map}
use Rattle.std.proofs.lemmas.List.{length-take-le}
use Rattle.capture.specs.Records.{entry_of}
use Rattle.recorded.specs.Queues.{first}
use Rattle.recorded.specs.Recordings.{queue_of, queue-held}
use Rattle.recorded.proofs.Room.{roomy, took, first_carries}
use Rattle.recorded.proofs.calls.RecordedFeed.next.Goals as goal
use Rattle.recorded.proofs.calls.RecordedFeed.next.Goals.{In_ok-record}

-- the record that is taken waited first
first_is : (c : In_ok-record) → Some (entry_of c.in_ok-record.record) ≡ first (queue_of c.args.self.now).waiting
first_is c = ap (option_map entry_of) (sym c.in_ok-record.ensures.ok_part) ∙ c.take_first.ensures.answer

-- the frame fits the buffer
fits : (c : In_ok-record) → length c.in_ok-record.record.frame.now ≤ length c.args.buffer.now
fits c =
    let s = c.args.self.now in
    let e = first_carries (queue_of s).waiting (entry_of c.in_ok-record.record) (queue-held s).0 (first_is c) in
    let l : length c.in_ok-record.record.frame.now ≤ 1040 = e.few in
    let room = ltb-false (length c.args.buffer.now) 1040 (roomy c.args.buffer.now (search rules)) in omega (arith, room)

pub slice_bounds-copy_from_slice-end : goal.slice_bounds-copy_from_slice-end
slice_bounds-copy_from_slice-end c = fits (goal.at.slice_bounds-copy_from_slice-end c).In_ok-record

pub slice_bounds-copy_from_slice-end-2 : goal.slice_bounds-copy_from_slice-end-2
slice_bounds-copy_from_slice-end-2 c =
    let l = length-take-le (length c.in_ok-record.record.frame.now) c.args.buffer.now (fits (goal.at.slice_bounds-copy_from_slice-end-2 c).In_ok-record) in omega (arith, l)

pub copy_from_slice-requires : goal.copy_from_slice-requires
copy_from_slice-requires c =
    let l = length-take-le (length c.in_ok-record.record.frame.now) c.args.buffer.now (fits (goal.at.copy_from_slice-requires c).In_ok-record) in omega (arith, l)

pub returns : goal.returns
returns c =
    let s = c.args.self.now in
    let q = queue_of s in
    let t = c.take_first.ensures in
    let room = roomy c.args.buffer.now (search rules) in
    let n = took q.waiting q.coming (entry_of c.in_ok-record.record) c.args.buffer.now room (first_is (goal.at.returns c).In_ok-record) t.left in
    let copied = c.copy_from_slice.ensures.after in
    record { answer = cc; frame = cc; left = cc; sound = cc }
