-- What is written is told apart again.
use Rattle.std.proofs.Common.{◌≡◌, ℕ, ◌+◌, ◌-◌, ◌*◌, ◌/◌, ◌%◌, ◌<◌, ◌≤◌, cond, eqb, ltb, List, ◌++◌, length, Some, Ok, Err, Result, refl, ap, ◌∙◌, arith, length-append}
use Rattle.std.proofs.lemmas.List.{take_at}
use Rattle.std.proofs.lemmas.Bool.{cond-true, cond-false, le-ltb, eq-eqb}
use Rattle.common.specs.declared.fault.Fault.{Fault}
use Rattle.common.specs.declared.fault.Fault.TheVariants as fault
use Rattle.crc.specs.CheckWord.{check_word_of}
use Rattle.fields.proofs.Numbers.{number32}
use Rattle.fields.specs.Fields.{be8, be16, be24, be32, bytes16}
use Rattle.wire.specs.declared.kind.FrameType.{FrameType}
use Rattle.wire.specs.declared.kind.FrameType.TheVariants as type
use Rattle.wire.specs.declared.kind.Version.{Version}
use Rattle.wire.specs.declared.kind.Version.TheVariants as version
use Rattle.wire.specs.declared.header.Header.{Header}
use Rattle.wire.specs.Kinds.{sync, both, type_code, type_of, version_code, version_of}
use Rattle.wire.specs.Headers.{headed, header_of, header_bytes}
use Rattle.wire.specs.Frames.{Told, classified, told_by, telling, frame_bytes, body_of, checks, sealed}
use Rattle.wire.specs.Laws.{Fits}
use Rattle.wire.proofs.Seals.{length-sealed, sealed-checks}

type_again : (t : FrameType) → type_of (type_code t) ≡ Some t
type_again type.Data = refl
type_again type.Header = refl
type_again type.Config1 = refl
type_again type.Config2 = refl
type_again type.Command = refl
type_again type.Config3 = refl

version_again : (v : Version) → (version_of (version_code v) ≡ Some v) × (version_code v < 16)
version_again version.Y2005 = (refl, omega arith)
version_again version.Y2011 = (refl, omega arith)

sync-again : (t : FrameType) (v : Version) → sync 0xaa (type_code t * 16 + version_code v) ≡ Ok (t, v)
sync-again t v =
    let w = version_again v in
    let low = w.1 in
    let high : (type_code t * 16 + version_code v) / 16 ≡ type_code t = omega arith in
    let rest : (type_code t * 16 + version_code v) % 16 ≡ version_code v = omega arith in
    ap (λ a. both (type_of a) (version_of ((type_code t * 16 + version_code v) % 16))) high
    ∙ (ap (λ b. both (type_of (type_code t)) (version_of b)) rest
    ∙ (ap (λ o. both o (version_of (version_code v))) (type_again t) ∙ ap (both (Some t)) w.0))

pub header-again : (h : Header) (rest : List ℕ) → Fits h → 2 ≤ length rest → header_of (header_bytes h ++ rest) ≡ Ok h
header-again h rest f l =
    let bs = header_bytes h ++ rest in
    let long = cond-false (ltb (length bs) 16) (Err fault.Short) (headed (sync (be8 bs 0) (be8 bs 1)) bs) (le-ltb (length bs) 16 (omega arith)) in
    let size : be16 bs 2 ≡ h.size = omega (arith, f.size) in
    let id : be16 bs 4 ≡ h.id.0 = omega (arith, f.id) in
    let soc : be32 bs 6 ≡ h.time.soc = number32 h.time.soc f.soc in
    let count : be24 bs 11 ≡ h.time.count = omega (arith, f.count) in
    long ∙ (ap (λ s. headed s bs) (sync-again h.kind h.version)
    ∙ (λ i. Ok (record { kind = h.kind; version = h.version; size = size i; id = record { 0 = id i }; time = record { soc = soc i; quality = h.time.quality; count = count i } })))

pub told-again : (h : Header) (body : List ℕ) → Fits h → h.size ≡ 16 + length body → classified (frame_bytes h body) ≡ Ok (telling h.kind body)
unfolding sealed
told-again h body f e =
    let ws = header_bytes h ++ body in
    let bs = sealed ws in
    let check = bytes16 (check_word_of ws) in
    let b = length-append body check in
    let n = length-sealed ws in
    let right : Result Told Fault = Ok (telling h.kind (body_of bs)) in
    let part : body_of bs ≡ body = take_at body check (length bs - 16) (omega (arith, n)) in
    ap (λ r. told_by r bs) (header-again h (body ++ check) f (omega (arith, b)))
    ∙ (cond-true (eqb h.size (length bs)) (cond (checks bs) right (Err fault.CheckWord)) (Err fault.FrameSize) (eq-eqb h.size (length bs) (omega (arith, n)))
    ∙ (cond-true (checks bs) right (Err fault.CheckWord) (sealed-checks ws) ∙ ap (λ x. Ok (telling h.kind x)) part))
