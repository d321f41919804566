use Rattle.std.proofs.Common.{sym, ap, ◌∙◌, rules}
use Rattle.concentrator.specs.Wholes.{whole}
use Rattle.runs.specs.Tickets.{ticket_out}
use Rattle.runs.proofs.Outs.{refused-out}
use Rattle.runs.proofs.host.Host.take.Goals as goal

pub invariant_of-self : goal.invariant_of-self
invariant_of-self g c = record { held = c.args.self.now.held ∙ (sym (refused-out (whole c.args.self.now.concentrator) c.take.result c.take.ensures.answer (search rules)) ∙ ap ticket_out (sym c.take.ensures.next)) }
