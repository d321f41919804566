-- What a plan knows of each port, and the sums over its ports that its limits are about.
use Rattle.std.specs.Prelude.{ℕ, ◌+◌, List, [], ◌∷◌, length, sum_by}
use Rattle.config.specs.declared.station.Station.{Station}
use Rattle.config.specs.Stations.{part_length}
use Rattle.layout.specs.Blocks.{data_length}
use Rattle.plan.specs.declared.span.Span.{Span}

-- a port: its sender's code and time base, and its stations
pub record PortOf : Type 0 where
  pub id : ℕ
  pub base : ℕ
  pub stations : List Station

-- how many stations the ports have together
abbrev pub station_count : List PortOf → ℕ
station_count ps = sum_by (λ p. length p.stations) ps

-- where the ports' bodies stand, one after the other, the first of them at a place
abbrev pub spans_from : ℕ → List PortOf → List Span
spans_from at [] = []
spans_from at (p ∷ ps) = record { at = at; len = data_length p.stations } ∷ spans_from (at + data_length p.stations) ps

-- where they stand in the body of a combined data frame
abbrev pub body_spans : List PortOf → List Span
body_spans ps = spans_from 0 ps

-- bytes of data body that all ports fill together
abbrev pub body_length : List PortOf → ℕ
body_length ps = sum_by (λ p. data_length p.stations) ps

-- bytes of the parts that describe some stations, all together
abbrev pub part_lengths : List Station → ℕ
part_lengths ss = sum_by part_length ss

-- bytes of the station parts of all ports
abbrev pub parts_length : List PortOf → ℕ
parts_length ps = sum_by (λ p. part_lengths p.stations) ps
