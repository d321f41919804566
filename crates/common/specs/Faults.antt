-- The refusals: the fixed number of each, and what it carries.
use Rattle.std.specs.Prelude.{ℕ, Some, None, Option, Ok, Err, Result}
use Rattle.common.specs.declared.fault.Fault.{Fault}
use Rattle.common.specs.declared.fault.Fault.TheVariants as fault

-- 1 to 17 come from the input, 20 to 30 from the state; a length that disagrees is 9, with a station or without
abbrev pub number : Fault → ℕ
number fault.Short = 1
number fault.Sync = 2
number fault.FrameSize = 3
number fault.CheckWord = 4
number fault.FrameType = 5
number fault.IdCode = 6
number fault.Count = 7
number fault.NoSlot = 8
number fault.Length = 9
number (fault.StationLength s) = 9
number fault.TooEarly = 10
number (fault.StationLimit s) = 11
number fault.Rate = 12
number fault.Unsound = 13
number fault.Reading = 14
number fault.Port = 15
number fault.Buffer = 17
number fault.Closed = 20
number fault.Repeated = 21
number fault.TooFarAhead = 22
number fault.NoneClosed = 23
number fault.TicketOut = 24
number fault.EmptyPlan = 25
number fault.WaitTooLong = 26
number fault.PlanFull = 27
number fault.Exhausted = 28
number fault.WrongTicket = 29
number fault.NothingWaits = 30

-- the number of a verdict: 0, or the refusal's
abbrev pub number_in : {A : Type 0} → Result A Fault → ℕ
number_in (Ok x) = 0
number_in (Err e) = number e

-- the station of a configuration at which its reading stopped, counted from 0
abbrev pub station : Fault → Option ℕ
station fault.Short = None
station fault.Sync = None
station fault.FrameSize = None
station fault.CheckWord = None
station fault.FrameType = None
station fault.IdCode = None
station fault.Count = None
station fault.NoSlot = None
station fault.Length = None
station (fault.StationLength s) = Some s
station fault.TooEarly = None
station (fault.StationLimit s) = Some s
station fault.Rate = None
station fault.Unsound = None
station fault.Reading = None
station fault.Port = None
station fault.Buffer = None
station fault.Closed = None
station fault.Repeated = None
station fault.TooFarAhead = None
station fault.NoneClosed = None
station fault.TicketOut = None
station fault.EmptyPlan = None
station fault.WaitTooLong = None
station fault.PlanFull = None
station fault.Exhausted = None
station fault.WrongTicket = None
station fault.NothingWaits = None
