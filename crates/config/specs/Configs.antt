-- The body of a configuration: TIME_BASE (4), NUM_PMU (2), the station parts, DATA_RATE (2).
use Rattle.std.specs.Prelude.{ℕ, ◌-◌, min, Bool, cond, ◌||◌, List, length, take, drop, Ok, Err, Result, nat_lt}
use Rattle.common.specs.declared.fault.Fault.{Fault}
use Rattle.common.specs.declared.fault.Fault.TheVariants as fault
use Rattle.fields.specs.Fields.{be16, be24}
use Rattle.config.specs.declared.station.Station.{Station}
use Rattle.fixed.specs.declared.list.FixedList.{FixedList}
use Rattle.fixed.specs.FixedList.{items_of}
use Rattle.config.specs.declared.config.Config.{Config}
use Rattle.config.specs.Stations.{stations_in}

-- the type of the same name, at most 32 stations
abbrev pub Stations : Type 0
Stations = FixedList Station 32

-- the stations that it holds
abbrev pub listed : Stations → List Station
listed s = items_of s

-- what the reading of station parts answers, told by the stations in a list; or the refusal
abbrev pub listed_by : Result Stations Fault → Result (List Station) Fault
listed_by (Ok s) = Ok (listed s)
listed_by (Err e) = Err e

-- what a configuration says: the sender's time base, its stations, and its rate
pub record Says : Type 0 where
  pub base : ℕ
  pub stations : List Station
  pub rate : ℕ

-- what a configuration says that was read
abbrev pub says : Config → Says
says c = record { base = c.time_base; stations = listed c.stations; rate = c.rate }

-- what the reading of a configuration answers, told by what it says; or the refusal
abbrev pub says_by : Result Config Fault → Result Says Fault
says_by (Ok c) = Ok (says c)
says_by (Err e) = Err e

-- the station parts within a body
abbrev pub parts_of : List ℕ → List ℕ
parts_of body = take (length body - 8) (drop 6 body)

-- what a body with this time base and rate says once its station parts are read, or the refusal at which these stop
abbrev pub saying : ℕ → ℕ → Result (List Station) Fault → Result Says Fault
saying base rate (Ok ss) = Ok (record { base = base; stations = ss; rate = rate })
saying base rate (Err e) = Err e

-- the time base, the low 24 bits of TIME_BASE, is below 1,000, or there are not 1 to `most` stations; more than 32 are never taken
abbrev pub past_limits : ℕ → ℕ → ℕ → Bool
past_limits base count most = nat_lt base 1000 || (nat_lt count 1 || nat_lt (min most 32) count)

-- what a body says that may have so many stations at most, or the refusal of the first thing that is wrong in it
abbrev pub configured : List ℕ → ℕ → Result Says Fault
configured body most =
    cond (nat_lt (length body) 8) (Err (fault.StationLength 0))
    (cond (past_limits (be24 body 1) (be16 body 4) most) (Err (fault.StationLimit 0))
    (saying (be24 body 1) (be16 body (length body - 2)) (stations_in (be16 body 4) 0 (parts_of body))))
