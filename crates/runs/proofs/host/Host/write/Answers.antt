use Rattle.std.proofs.Common.{sym, ap, ◌∙◌, length}
use Rattle.concentrator.specs.Wholes.{whole}
use Rattle.runs.specs.Tickets.{ticket_out, number_held, held_after}
use Rattle.runs.proofs.Outs.{write-out}
use Rattle.runs.proofs.host.Host.write.Goals as goal

pub invariant_of-self : goal.invariant_of-self
invariant_of-self g c =
    let s = c.args.self.now in
    let n = c.ticket_for-ticket.result.number in
    record {
      held =
          c.ticket_for-ticket.ensures.left
          ∙ (ap (held_after (number_held s.ticket)) (sym c.ticket_for-ticket.ensures.number)
          ∙ (ap (λ o. held_after o n) s.held
          ∙ (sym (write-out (whole s.concentrator) n (length c.deref_mut.result.now)) ∙ ap ticket_out (sym c.write-written.ensures.next))));
    }
