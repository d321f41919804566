use Rattle.std.proofs.Common.{refl, rules, is_ok, false, ◌≡◌, ◌∙◌, Err}
use Rattle.common.specs.declared.fault.Fault.TheVariants.{NothingWaits}
use Rattle.concentrator.specs.Calls.{number_by}
use Rattle.stacked.specs.Stacks.{taken_by}
use Rattle.concentrator.specs.Wholes.{whole}
use Rattle.stacked.specs.Stackings.{whole-reached}
use Rattle.stacked.proofs.Takes.{none_by, one_lent, not_refused, wrote_reached}
use Rattle.stacked.proofs.stacked.Stacked.write_first.Goals as goal

pub returns-in_err-ticket : goal.returns-in_err-ticket
returns-in_err-ticket g c =
    let s = c.args.self.now in
    let reached = whole-reached s.concentrator s.free in
    let unlent : is_ok (number_by c.take.result) ≡ false = search rules in
    let n =
    none_by s.port.0 (whole s.concentrator) reached c.args.buffer.now c.requires.room (number_by c.take.result) (whole c.take.new.self) unlent
    c.take.ensures.answer c.take.ensures.next in
    let said : taken_by s.port.0 c.from_residual.result ≡ Err NothingWaits = search rules in
    record { answer = said ∙ n.answer; frame = n.frame; left = n.left; shut = n.shut; port = refl }

pub invariant_of-self-2 : goal.invariant_of-self-2
invariant_of-self-2 g c =
    let s = c.args.self.now in
    let reached = whole-reached s.concentrator s.free in
    let r =
    wrote_reached s.port.0 (whole s.concentrator) reached c.args.buffer.now c.requires.room c.in_ok-ticket.ticket.number (search rules)
    (whole c.take.new.self) c.take.ensures.next (whole c.write.new.self) c.write.ensures.next in
    record { free = r.free; line = s.line }

pub returns-in_err-written : goal.returns-in_err-written
returns-in_err-written g c =
    let s = c.args.self.now in
    let reached = whole-reached s.concentrator s.free in
    absurd
    (not_refused s.port.0 (whole s.concentrator) reached c.args.buffer.now c.requires.room c.in_ok-ticket.ticket.number (search rules)
    (whole c.take.new.self) c.take.ensures.next c.in_err-written.field-0.0 c.in_err-written.ensures.answer)

pub returns : goal.returns
returns g c =
    let s = c.args.self.now in
    let reached = whole-reached s.concentrator s.free in
    let e = c.in_ok-written.ensures in
    let n =
    one_lent s.port.0 (whole s.concentrator) reached c.args.buffer.now c.requires.room c.in_ok-ticket.ticket.number (search rules)
    (whole c.take.new.self) c.take.ensures.next c.in_ok-written.written.len c.write.new.out (whole c.write.new.self) e.answer e.frame e.next in
    record { answer = n.answer; frame = n.frame; left = n.left; shut = n.shut; port = refl }
