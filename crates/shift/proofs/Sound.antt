-- What a frame is told as hangs on a few of its bytes.
use Rattle.std.proofs.Common.{◌≡◌, ℕ, ◌≤◌, Bool, true, false, cond, eqb, ltb, List, length, Ok, Err, Result, refl, ◌∙◌}
use Rattle.std.proofs.lemmas.Bool.{ltb-false}
use Rattle.common.specs.declared.fault.Fault.{Fault}
use Rattle.common.specs.declared.fault.Fault.TheVariants.{Short, FrameSize, CheckWord}
use Rattle.fields.specs.Fields.{be8, be16}
use Rattle.wire.specs.declared.kind.FrameType.{FrameType}
use Rattle.wire.specs.declared.kind.Version.{Version}
use Rattle.wire.specs.declared.header.Header.{Header}
use Rattle.wire.specs.Kinds.{sync}
use Rattle.wire.specs.Headers.{headed, header_of}
use Rattle.wire.specs.Frames.{Told, telling, body_of, checks, told_by, classified}

-- a test before a refusal, or after one, was passed
passed : {X : Type 0} (b : Bool) (r : Result X Fault) (e : Fault) (x : X) → cond b r (Err e) ≡ Ok x → (b ≡ true) × (r ≡ Ok x)
passed true r e x p = (refl, p)
passed false r e x p = absurd (cc)

past : {X : Type 0} (b : Bool) (r : Result X Fault) (e : Fault) (x : X) → cond b (Err e) r ≡ Ok x → b ≡ false
past true r e x p = absurd (cc)
past false r e x p = refl

checked_by : (r : Result Header Fault) (bs : List ℕ) (t : Told) → told_by r bs ≡ Ok t → (checks bs ≡ true) × ((h : Header) × (r ≡ Ok h))
checked_by (Ok h) bs t p =
    let right : Result Told Fault = Ok (telling h.kind (body_of bs)) in
    let size = passed (eqb h.size (length bs)) (cond (checks bs) right (Err CheckWord)) FrameSize t p in
    ((passed (checks bs) right CheckWord t size.1).0, (h, refl))
checked_by (Err e) bs t p = absurd (cc)

-- a frame that passes the checks has its check word, and the least length
pub sound-checks : (bs : List ℕ) (t : Told) → classified bs ≡ Ok t → checks bs ≡ true
sound-checks bs t p = (checked_by (header_of bs) bs t p).0

pub sound-long : (bs : List ℕ) (t : Told) → classified bs ≡ Ok t → 16 ≤ length bs
sound-long bs t p =
    let h = (checked_by (header_of bs) bs t p).1 in
    ltb-false (length bs) 16 (past (ltb (length bs) 16) (headed (sync (be8 bs 0) (be8 bs 1)) bs) Short h.0 h.1)

-- what the telling of a frame asks of its bytes
pub record Alike (xs bs : List ℕ) : Type 0 where
  pub long : length xs ≡ length bs
  pub mark : be8 xs 0 ≡ be8 bs 0
  pub kind : be8 xs 1 ≡ be8 bs 1
  pub size : be16 xs 2 ≡ be16 bs 2
  pub body : body_of xs ≡ body_of bs
  pub check : checks xs ≡ checks bs

told-by-sync : (xs bs : List ℕ) → Alike xs bs → (short : Bool) (s : Result (FrameType × Version) Fault) → told_by (cond short (Err Short) (headed s xs)) xs ≡ told_by (cond short (Err Short) (headed s bs)) bs
told-by-sync xs bs a true s = refl
told-by-sync xs bs a false (Err e) = refl
told-by-sync xs bs a false (Ok s) =
    λ i. cond (eqb (a.size i) (a.long i)) (cond (a.check i) (Ok (telling s.0 (a.body i))) (Err CheckWord)) (Err FrameSize)

pub told-alike : (xs bs : List ℕ) → Alike xs bs → classified xs ≡ classified bs
told-alike xs bs a =
    (λ i. told_by (cond (ltb (a.long i) 16) (Err Short) (headed (sync (a.mark i) (a.kind i)) xs)) xs)
    ∙ told-by-sync xs bs a (ltb (length bs) 16) (sync (be8 bs 0) (be8 bs 1))
