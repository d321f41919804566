-- The station parts of a configuration: which stations they describe, or where their reading stops.
use Rattle.std.specs.Prelude.{ℕ, zero, suc, ◌+◌, ◌*◌, Bool, cond, ◌&&◌, List, [], ◌∷◌, ◌++◌, length, drop, Ok, Err, Result, ◌==◌, nat_le}
use Rattle.common.specs.declared.fault.Fault.{Fault}
use Rattle.common.specs.declared.fault.Fault.TheVariants as fault
use Rattle.common.specs.Ids.{reserved}
use Rattle.fields.specs.Fields.{be16}
use Rattle.config.specs.declared.station.Station.{Station}

-- a part has 30 bytes, 20 for each phasor and analog, and 260 for each digital word
abbrev pub part_length : Station → ℕ
part_length s = 30 + 20 * s.phasors + 20 * s.analogs + 260 * s.digitals

-- the station that a part describes: ID, FORMAT and the three counts stand behind its name of 16 bytes
abbrev pub shape_at : List ℕ → Station
shape_at bs =
    record { id = record { 0 = be16 bs 16 }; format = record { 0 = be16 bs 18 }; phasors = be16 bs 20; analogs = be16 bs 22; digitals = be16 bs 24 }

-- a station has at most 32 phasors, 16 analogs and 4 digital words
abbrev pub few : Station → Bool
few s = nat_le s.phasors 32 && (nat_le s.analogs 16 && nat_le s.digitals 4)

-- a station, number k, if its counts are few, its code is not reserved and its part is among the n bytes that are there, else the refusal of the first that fails
abbrev pub station_judged : Station → ℕ → ℕ → Result Station Fault
station_judged s k n =
    cond (few s) (cond (reserved s.id.0) (Err fault.IdCode) (cond (nat_le (part_length s) n) (Ok s) (Err (fault.StationLength k))))
    (Err (fault.StationLimit k))

-- the station, number k, whose part begins the bytes
abbrev pub station_at : List ℕ → ℕ → Result Station Fault
station_at bs k = cond (nat_le 26 (length bs)) (station_judged (shape_at bs) k (length bs)) (Err (fault.StationLength k))

-- some stations and behind them those that a reading answers, or the refusal of that reading
abbrev pub before : List Station → Result (List Station) Fault → Result (List Station) Fault
before ss (Ok ts) = Ok (ss ++ ts)
before ss (Err e) = Err e

-- no more stations, if nothing is left behind the last one, else the refusal
abbrev pub ended : List ℕ → ℕ → Result (List Station) Fault
ended bs k = cond (length bs == 0) (Ok []) (Err (fault.StationLength k))

-- a station and then those read behind it, or the refusal at which the reading stops
abbrev pub onward : Result Station Fault → (Station → Result (List Station) Fault) → Result (List Station) Fault
onward (Ok s) f = before (s ∷ []) (f s)
onward (Err e) f = Err e

-- the n stations that the bytes describe one after the other, the first of them number k
unfoldable pub stations_in : ℕ → ℕ → List ℕ → Result (List Station) Fault
stations_in zero k bs = ended bs k
stations_in (suc n) k bs = onward (station_at bs k) (λ s. stations_in n (k + 1) (drop (part_length s) bs))
