use Rattle.std.proofs.Common.{sym, ap, ◌∙◌}
use Rattle.concentrator.specs.Wholes.{whole}
use Rattle.runs.specs.Tickets.{ticket_out}
use Rattle.runs.proofs.Outs.{tick-out}
use Rattle.runs.proofs.host.Host.tick.Goals as goal

pub invariant_of-self : goal.invariant_of-self
invariant_of-self g c =
    record { held = c.args.self.now.held ∙ (sym (tick-out (whole c.args.self.now.concentrator) c.args.reading _) ∙ ap ticket_out (sym c.tick.ensures.next)) }
