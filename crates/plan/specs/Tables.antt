-- The ports that a table of records holds.
use Rattle.std.specs.Prelude.{List, map}
use Rattle.fixed.specs.declared.list.FixedList.{FixedList}
use Rattle.fixed.specs.FixedList.{items_of}
use Rattle.config.specs.Configs.{listed}
use Rattle.plan.specs.declared.record.Record.{Record}
use Rattle.plan.specs.Ports.{PortOf}

-- the type of the same name, at most 16 records
abbrev pub Table : Type 0
Table = FixedList Record 16

-- what a record says of its port: the sender's code, the time base and the stations
abbrev pub port_of : Record → PortOf
port_of r = record { id = r.id.0; base = r.time_base; stations = listed r.stations }

-- what the records of a table say, port by port, in their order
abbrev pub ports_of : Table → List PortOf
ports_of t = map port_of (items_of t)
