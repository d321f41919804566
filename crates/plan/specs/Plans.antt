-- A plan, and what adding a port to it answers and changes.
use Rattle.std.specs.Prelude.{ℕ, ◌+◌, ◌-◌, Bool, cond, ◌&&◌, ◌||◌, List, [], ◌∷◌, ◌++◌, length, take, drop, Ok, Err, Result, ◌==◌, nat_le, nat_lt}
use Rattle.common.specs.declared.fault.Fault.{Fault}
use Rattle.common.specs.declared.fault.Fault.TheVariants as fault
use Rattle.common.specs.declared.ids.Port.{Port}
use Rattle.common.specs.Ids.{reserved}
use Rattle.fields.specs.Fields.{be16, put}
use Rattle.wire.specs.Frames.{classified, config_body_of}
use Rattle.config.specs.Configs.{Says, configured}
use Rattle.layout.specs.Blocks.{data_length}
use Rattle.plan.specs.Ports.{PortOf, station_count, body_length, part_lengths, parts_length}

-- a plan: the combined code, the rate, and the ports in their order
pub record PlanOf : Type 0 where
  pub id : ℕ
  pub rate : ℕ
  pub ports : List PortOf

-- a plan that has its code and its rate, and no ports yet
abbrev pub begun : ℕ → ℕ → PlanOf
begun id rate = record { id = id; rate = rate; ports = [] }

-- success if the plan's own code is not reserved and its rate is 1 to 120, else the refusal of the first that is not
abbrev pub own : PlanOf → Result Unit Fault
own p = cond (reserved p.id) (Err fault.IdCode) (cond (nat_le 1 p.rate && nat_le p.rate 120) (Ok tt) (Err fault.Rate))

-- a port from what a configuration says, if its rate is the plan's
abbrev pub port_from : ℕ → ℕ → Result Says Fault → Result PortOf Fault
port_from rate id (Ok s) = cond (s.rate == rate) (Ok (record { id = id; base = s.base; stations = s.stations })) (Err fault.Rate)
port_from rate id (Err e) = Err e

-- the port from a configuration's body, if the sender's code is not reserved, and the body reads with at most 8 stations and the plan's rate
abbrev pub bodied : ℕ → ℕ → Result (List ℕ) Fault → Result PortOf Fault
bodied rate id (Ok body) = cond (reserved id) (Err fault.IdCode) (port_from rate id (configured body 8))
bodied rate id (Err e) = Err e

-- the port that a configuration frame asks for, at a rate
unfoldable pub asked : ℕ → List ℕ → Result PortOf Fault
asked rate bytes = bodied rate (be16 bytes 4) (config_body_of (classified bytes))

-- with one port more there would be over 16 ports, over 32 stations, or over 1,024 bytes of data body
abbrev pub full : List PortOf → PortOf → Bool
full ps q =
    nat_le 16 (length ps) || (nat_lt 32 (station_count ps + length q.stations) || nat_lt 1024 (body_length ps + data_length q.stations))

-- the buffer is too short for 20 bytes, all parts with those of one port more, and 4
abbrev pub short : List PortOf → PortOf → ℕ → Bool
short ps q room = nat_lt room (20 + parts_length ps + part_lengths q.stations + 4)

-- the port that was asked for, if the plan and then the buffer have room for it, else the refusal
abbrev pub with_room : List PortOf → ℕ → Result PortOf Fault → Result PortOf Fault
with_room ps room (Ok q) = cond (full ps q) (Err fault.PlanFull) (cond (short ps q room) (Err fault.Buffer) (Ok q))
with_room ps room (Err e) = Err e

-- the plan's own code and rate are checked first, then the frame, and then the room for its port
abbrev pub addable : Result Unit Fault → PlanOf → List ℕ → ℕ → Result PortOf Fault
addable (Ok u) p bytes room = with_room p.ports room (asked p.rate bytes)
addable (Err e) p bytes room = Err e

-- the port that an add of the frame, with a buffer of so many bytes, puts into the plan, or its refusal
abbrev pub adds : PlanOf → List ℕ → ℕ → Result PortOf Fault
adds p bytes room = addable (own p) p bytes room

-- what an add answers: the next port's number, or the refusal
abbrev pub add_answer : PlanOf → Result PortOf Fault → Result ℕ Fault
add_answer p (Ok q) = Ok (length p.ports)
add_answer p (Err e) = Err e

-- what the code answers to an add, with the port as its number
abbrev pub numbered : Result Port Fault → Result ℕ Fault
numbered (Ok n) = Ok n.0
numbered (Err e) = Err e

-- the plan that an add leaves: with one port more, or as it was
abbrev pub add_plan : PlanOf → Result PortOf Fault → PlanOf
add_plan p (Ok q) = record { id = p.id; rate = p.rate; ports = p.ports ++ q ∷ [] }
add_plan p (Err e) = p

-- the station parts of a configuration frame
abbrev pub parts_in : List ℕ → List ℕ
parts_in bytes = take (length bytes - 24) (drop 20 bytes)

-- the buffer that an add leaves: the frame's parts behind those of the earlier ports, or as it was
abbrev pub add_buffer : PlanOf → List ℕ → Result PortOf Fault → List ℕ → List ℕ
add_buffer p bytes (Ok q) buffer = put buffer (20 + parts_length p.ports) (parts_in bytes)
add_buffer p bytes (Err e) buffer = buffer
