-- A frame that is refused by itself is refused by a number from 1 to 19.
use Rattle.std.specs.Prelude.{◌≡◌, ℕ, ◌/◌, ◌%◌, ◌<◌, Bool, true, false, cond, List, length, Some, None, Ok, Err, Option, Result, ◌==◌, nat_lt}
use Rattle.std.proofs.Common.{arith}
use Rattle.common.specs.declared.fault.Fault as the_fault
use Rattle.common.specs.declared.fault.Fault.TheVariants as fault
use Rattle.common.specs.Faults.{number}
use Rattle.fields.specs.Fields.{be8, be16}
use Rattle.wire.specs.declared.kind.FrameType.{FrameType}
use Rattle.wire.specs.declared.kind.Version.{Version}
use Rattle.wire.specs.declared.header.Header.{Header}
use Rattle.wire.specs.declared.header.TimeTag.{TimeTag}
use Rattle.wire.specs.Kinds.{type_of, version_of, both, sync}
use Rattle.wire.specs.Headers.{headed, header_of, time_of}
use Rattle.wire.specs.Frames.{Told, of_data, of_config2, of_other, telling, body_of, checks, told_by, classified, data_body_of}
use Rattle.layout.specs.Blocks.{data_length}
use Rattle.plan.specs.Ports.{PortOf}
use Rattle.slots.specs.Slots.{slot_of}
use Rattle.sample.specs.Samples.{SampleOf, sent_by, in_slot, bodied, sample_of}
use Rattle.combined.specs.Blocks.{port_at}
use Rattle.engine.specs.Boxes as E
use Rattle.engine.specs.Calls as K
use Rattle.laws.specs.Setting.{Fault}
use Rattle.runs.specs.Models.{sort_of}

-- a refusal has a number from 1 to 19; of anything else nothing is said
abbrev Small : {A : Type 0} → Result A the_fault.Fault → Type 0
Small (Ok x) = Unit {0}
Small (Err f) = (0 < number f) × (number f < 20)

-- of two such answers the one that is chosen is such a one
small-cond : {A : Type 0} (b : Bool) (r s : Result A the_fault.Fault) → Small r → Small s → Small (cond b r s)
small-cond true r s x y = x
small-cond false r s x y = y

-- so it is with a type and a version
small-both : (t : Option FrameType) (v : Option Version) → Small (both t v)
small-both (Some t) (Some v) = tt
small-both (Some t) None = (omega arith, omega arith)
small-both None v = (omega arith, omega arith)

-- with the header behind a SYNC word
small-headed : (r : Result (FrameType × Version) the_fault.Fault) (bs : List ℕ) → Small r → Small (headed r bs)
small-headed (Ok s) bs h = tt
small-headed (Err f) bs h = h

-- with a header
small-header : (bs : List ℕ) → Small (header_of bs)
small-header bs = small-cond (nat_lt (length bs) 16) (Err fault.Short) (headed (sync (be8 bs 0) (be8 bs 1)) bs) (omega arith, omega arith)
    (small-headed (sync (be8 bs 0) (be8 bs 1)) bs (small-cond (be8 bs 0 == 0xaa) (both (type_of (be8 bs 1 / 16)) (version_of (be8 bs 1 % 16))) (Err fault.Sync) (small-both (type_of (be8 bs 1 / 16)) (version_of (be8 bs 1 % 16))) (omega arith, omega arith)))

-- with what a frame is told apart as
small-told : (r : Result Header the_fault.Fault) (bs : List ℕ) → Small r → Small (told_by r bs)
small-told (Err f) bs h = h
small-told (Ok x) bs h = small-cond (x.size == length bs) (cond (checks bs) (Ok (telling x.kind (body_of bs))) (Err fault.CheckWord)) (Err fault.FrameSize)
    (small-cond (checks bs) (Ok (telling x.kind (body_of bs))) (Err fault.CheckWord) tt (omega arith, omega arith)) (omega arith, omega arith)

-- with the body of a data frame
small-body : (r : Result Told the_fault.Fault) → Small r → Small (data_body_of r)
small-body (Ok (of_data b)) h = tt
small-body (Ok (of_config2 b)) h = (omega arith, omega arith)
small-body (Ok (of_other b)) h = (omega arith, omega arith)
small-body (Err f) h = h

-- with the sample of a slot
small_slot : (o : Option ℕ) (quality : ℕ) (body : List ℕ) → Small (in_slot o quality body)
small_slot (Some n) quality body = tt
small_slot None quality body = (omega arith, omega arith)

-- with a body at a port
small-placed : (F : ℕ) (port : PortOf) (id : ℕ) (time : TimeTag) (r : Result (List ℕ) the_fault.Fault) → Small r → Small (bodied F port id time r)
small-placed F port id time (Err f) h = h
small-placed F port id time (Ok body) h =
    small-cond (sent_by id port.id) _ (Err fault.IdCode)
    (small-cond (length body == data_length port.stations) _ (Err fault.Length)
    (small-cond (nat_lt time.count port.base) (in_slot (slot_of F port.base time.soc time.count) time.quality body) (Err fault.Count)
    (small_slot (slot_of F port.base time.soc time.count) time.quality body) (omega arith, omega arith))
    (omega arith, omega arith))
    (omega arith, omega arith)

-- and with the sample of a frame
small_sample : (F : ℕ) (port : PortOf) (bs : List ℕ) → Small (sample_of F port bs)
unfolding sample_of
small_sample F port bs = small-placed F port (be16 bs 4) (time_of bs) (data_body_of (classified bs)) (small-body (classified bs) (small-told (header_of bs) bs (small-header bs)))

-- a refusal with a number from 1 to 19 is a fault with one
numbers : (r : Result SampleOf the_fault.Fault) (k : ℕ) → Small r → sort_of r ≡ Fault k → (0 < k) × (k < 20)
numbers (Ok x) k h q = let z : ◌≡◌ {A = ℕ} 0 1 = cc in let no : ⊥ = omega arith in absurd no
numbers (Err f) k h q = let w : number f ≡ k = cc in (omega (arith, h.0), omega (arith, h.1))

-- what refuses a frame for its own sake, at whichever port, has a number from 1 to 19
pub numbered : (e : E.Setting) (p : ℕ) (b : List ℕ) (k : ℕ) → sort_of (K.sound_at e p b) ≡ Fault k → (0 < k) × (k < 20)
numbered e p b k q = numbers (K.sound_at e p b) k
    (small-cond (nat_lt p (length e.ports)) (sample_of e.rate (port_at e.ports p) b) (Err fault.Port) (small_sample e.rate (port_at e.ports p) b) (omega arith, omega arith)) q
