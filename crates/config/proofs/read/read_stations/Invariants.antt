use Rattle.std.proofs.Common.{◌≡◌, ◌-◌, length}
use Rattle.config.specs.Stations.{before, stations_in}
use Rattle.config.specs.Configs.{listed}
use Rattle.config.proofs.read.read_stations.Given as goal

abbrev pub invariant-loop-k : goal.invariant-loop-k
invariant-loop-k l =
    (length (listed l.stations) ≡ l.k)
    × (before (listed l.stations) (stations_in (l.count - l.k) l.k l.rest) ≡ stations_in l.count 0 l.parts)
