-- Where a station with a code stands first, by port and then by place.
use Rattle.std.specs.Prelude.{ℕ, ◌+◌, List, [], ◌∷◌, Some, None, Option, ◌==◌}
use Rattle.std.specs.List.{position_from}
use Rattle.config.specs.declared.station.Station.{Station}
use Rattle.plan.specs.declared.find.Place.{Place}
use Rattle.plan.specs.Ports.{PortOf}

-- the first of the stations with the code, the first of them having the place k
abbrev pub place_in : List Station → ℕ → ℕ → Option ℕ
place_in ss id k = position_from (λ s. s.id.0 == id) k ss

-- port p and a place in it, if there is one, else what the ports behind it give
abbrev pub at_port : ℕ → Option ℕ → Option (ℕ × ℕ) → Option (ℕ × ℕ)
at_port p (Some k) rest = Some (p, k)
at_port p None rest = rest

-- the first in the ports, the first of them having the number p
unfoldable pub find_in : List PortOf → ℕ → ℕ → Option (ℕ × ℕ)
find_in [] id p = None
find_in (q ∷ qs) id p = at_port p (place_in q.stations id 0) (find_in qs id (p + 1))

-- where a station stands, as two numbers: its port's, and its place among the port's stations
abbrev pub place_of : Place → ℕ × ℕ
place_of p = (p.port.0, p.station)
