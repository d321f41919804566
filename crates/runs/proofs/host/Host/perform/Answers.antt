use Rattle.std.proofs.Common.{sym, ap, ◌∙◌}
use Rattle.concentrator.specs.Wholes.{whole}
use Rattle.runs.specs.Tickets.{ticket_out}
use Rattle.runs.proofs.Outs.{admit-out}
use Rattle.runs.proofs.host.Host.perform.Goals as goal

pub invariant_of-self : goal.invariant_of-self
invariant_of-self g c =
    record { held = c.args.self.now.held ∙ (sym (admit-out (whole c.args.self.now.concentrator) c.in-Admit.port.0 c.in-Admit.frame.now) ∙ ap ticket_out (sym c.admit.ensures.next)) }
