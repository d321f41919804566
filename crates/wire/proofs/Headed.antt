-- What is known of the header that was read.
use Rattle.std.proofs.Common.{◌≡◌, ℕ, Bool, true, false, cond, ltb, List, length, Ok, Err, Result, sym, ap}
use Rattle.common.specs.declared.fault.Fault.{Fault}
use Rattle.common.specs.declared.fault.Fault.TheVariants.{Short}
use Rattle.fields.specs.Fields.{be8, be16}
use Rattle.wire.specs.declared.kind.FrameType.{FrameType}
use Rattle.wire.specs.declared.kind.Version.{Version}
use Rattle.wire.specs.declared.header.Header.{Header}
use Rattle.wire.specs.Kinds.{sync}
use Rattle.wire.specs.Headers.{headed, header_of, time_of}

abbrev header_by : Result Header Fault → Header → Header
header_by (Ok h) k = h
header_by (Err e) k = k

-- the sender stands in bytes 4 and 5, and the time behind it
headed-says : (s : Result (FrameType × Version) Fault) (bs : List ℕ) (h : Header) → headed s bs ≡ Ok h → (h.id.0 ≡ be16 bs 4) × (h.time ≡ time_of bs)
headed-says (Ok s) bs h e =
    let k = sym (ap (λ r. header_by r h) e) in (ap (λ (x : Header). x.id.0) k, ap (λ (x : Header). x.time) k)
headed-says (Err x) bs h e = cc

past-short : (b : Bool) (r : Result Header Fault) (h : Header) → cond b (Err Short) r ≡ Ok h → r ≡ Ok h
past-short true r h e = cc
past-short false r h e = e

module _ (bs : List ℕ) (h : Header) (e : header_of bs ≡ Ok h) where
  header-says : (h.id.0 ≡ be16 bs 4) × (h.time ≡ time_of bs)
  header-says =
      headed-says (sync (be8 bs 0) (be8 bs 1)) bs h (past-short (ltb (length bs) 16) (headed (sync (be8 bs 0) (be8 bs 1)) bs) h e)

  pub header-id : h.id.0 ≡ be16 bs 4
  header-id = header-says.0

  pub header_time : h.time ≡ time_of bs
  header_time = header-says.1
