-- What the code's own values stand for.
use Rattle.std.specs.Prelude.{Ok, Err, Result}
use Rattle.common.specs.declared.fault.Fault.{Fault}
use Rattle.plan.specs.declared.record.Record.{Record}
use Rattle.plan.specs.declared.request.Request.{Request}
use Rattle.plan.specs.declared.plan.Plan.{Plan}
use Rattle.plan.specs.Ports.{PortOf}
use Rattle.plan.specs.Tables.{port_of, ports_of}
use Rattle.plan.specs.Plans.{PlanOf}

-- of the code's plan its code, its rate and the ports of its table, without the counts and lengths that it keeps
abbrev pub plan_of : Plan → PlanOf
plan_of p = record { id = p.id.0; rate = p.rate; ports = ports_of p.table }

-- what the code answers, with the record as the port that it tells of
abbrev pub port_by : Result Record Fault → Result PortOf Fault
port_by (Ok r) = Ok (port_of r)
port_by (Err e) = Err e

-- the same of a request: its port, without the bytes of the parts
abbrev pub requested_by : Result Request Fault → Result PortOf Fault
requested_by (Ok p) = Ok (port_of p.port)
requested_by (Err e) = Err e

-- a port if a test passes, else the refusal of the test
abbrev pub passing : Result Unit Fault → PortOf → Result PortOf Fault
passing (Ok u) q = Ok q
passing (Err e) q = Err e
