-- The ticket that is out.
use Rattle.std.specs.Prelude.{ℕ, cond, Some, None, Option, ◌==◌}
use Rattle.common.specs.declared.fault.Fault.{Fault}
use Rattle.concentrator.specs.declared.ticket.Ticket.{Ticket}
use Rattle.concentrator.specs.Wholes.{Whole}

-- the number of a ticket that is held, if one is
abbrev pub number_held : Option Ticket → Option ℕ
number_held None = None
number_held (Some t) = Some t.number

-- none is out of a concentrator that is shut
abbrev pub out_of : Option Fault → Option ℕ → Option ℕ
out_of (Some f) o = None
out_of None o = o

-- the number of the ticket that is out
abbrev pub ticket_out : Whole → Option ℕ
ticket_out w = out_of w.shut w.box.out

-- what is held after a ticket with number n was spent
abbrev pub held_after : Option ℕ → ℕ → Option ℕ
held_after None n = None
held_after (Some k) n = cond (k == n) None (Some k)
