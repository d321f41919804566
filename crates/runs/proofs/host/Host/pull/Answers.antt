use Rattle.std.proofs.Common.{sym, ap, ◌∙◌}
use Rattle.concentrator.specs.Wholes.{whole}
use Rattle.runs.specs.Tickets.{ticket_out}
use Rattle.runs.proofs.Outs.{pull-out}
use Rattle.runs.proofs.host.Host.pull.Goals as goal

pub invariant_of-self : goal.invariant_of-self
invariant_of-self g c = record { held = c.args.self.now.held ∙ (sym (pull-out (whole c.args.self.now.concentrator) c.deref_mut.result.now) ∙ ap ticket_out (sym c.pull-pulled.ensures.next)) }
