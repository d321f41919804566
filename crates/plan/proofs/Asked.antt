-- A port that a configuration frame asked for, and the frame's bytes.
use Rattle.std.proofs.Common.{◌≡◌, ℕ, ◌+◌, ◌-◌, ◌*◌, ◌≤◌, Bool, true, false, cond, ◌&&◌, eqb, ltb, leb, List, [], ◌∷◌, length, take, drop, Ok, Err, Result, sym, refl, ap, ◌∙◌, arith, length-drop}
use Rattle.std.specs.List.{AllByRecursion as All}
use Rattle.std.proofs.lemmas.List.{length-take-le, take-take, drop-take, drop-drop}
use Rattle.std.proofs.lemmas.List.Sums.{sum_by-cons}
use Rattle.std.proofs.lemmas.Bool.{and_parts, leb-true, ltb-false}
use Rattle.common.specs.declared.fault.Fault.{Fault}
use Rattle.common.specs.declared.fault.Fault.TheVariants as fault
use Rattle.common.specs.Ids.{reserved}
use Rattle.fields.specs.Fields.{be8, be16}
use Rattle.wire.specs.declared.kind.FrameType.{FrameType}
use Rattle.wire.specs.declared.kind.FrameType.TheVariants as type
use Rattle.wire.specs.declared.header.Header.{Header}
use Rattle.wire.specs.Kinds.{sync}
use Rattle.wire.specs.Headers.{headed, header_of}
use Rattle.wire.specs.Frames.{Told, of_data, of_config2, of_other, telling, body_of, checks, told_by, classified, config_body_of}
use Rattle.config.specs.declared.station.Station.{Station}
use Rattle.config.specs.Stations.{part_length, few, stations_in}
use Rattle.config.specs.Configs.{Says, configured, parts_of}
use Rattle.config.proofs.Exact.{err_not_ok, passed, not_stopped, stations_exact, config_exact}
use Rattle.config.specs.Formats.{float_phasors, float_analogs}
use Rattle.layout.specs.Blocks.{number_length, block_length, data_length}
use Rattle.plan.specs.Ports.{PortOf, part_lengths}
use Rattle.plan.specs.Plans.{asked, bodied, port_from, parts_in}
use Rattle.plan.specs.Runs.{stations_of, stations_by}

two_each : (n : ℕ) (float : Bool) → 2 * n ≤ n * number_length float
two_each n true = omega arith
two_each n false = omega arith

-- a part is long only where its station's data are long, or by its digital words
part-bound : (s : Station) → few s ≡ true → part_length s ≤ 1070 + 10 * block_length s
part-bound s h =
    let f = s.format.0 in
    let words = (and_parts (leb s.analogs 16) (leb s.digitals 4) (and_parts (leb s.phasors 32) (leb s.analogs 16 && leb s.digitals 4) h).1).1 in
    let few_words = leb-true s.digitals 4 words in
    let p = two_each s.phasors (float_phasors f) in
    let a = two_each s.analogs (float_analogs f) in
    omega (arith, few_words, p, a)

pub parts-bound : (ss : List Station) → All (λ s. few s ≡ true) ss → part_lengths ss ≤ 1070 * length ss + 10 * data_length ss
parts-bound [] h = omega arith
parts-bound (s ∷ ss) h =
    let here = part-bound s h.0 in
    let rest = parts-bound ss h.1 in
    let a = sum_by-cons part_length s ss in
    let b = sum_by-cons block_length s ss in
    omega (arith, here, rest, a, b)

-- the frame of a port that was asked for
told-header : (bs : List ℕ) (h : Header) → header_of bs ≡ Ok h → 16 ≤ length bs
told-header bs h p = ltb-false (length bs) 16 (not_stopped (ltb (length bs) 16) (headed (sync (be8 bs 0) (be8 bs 1)) bs) fault.Short h p).0

telling_config : (t : FrameType) (b body : List ℕ) → telling t b ≡ of_config2 body → b ≡ body
telling_config type.Data b body p = cc
telling_config type.Header b body p = cc
telling_config type.Config1 b body p = cc
telling_config type.Config2 b body p = cc
telling_config type.Command b body p = cc
telling_config type.Config3 b body p = cc

pub told_config : (r : Result Header Fault) (bs body : List ℕ) → header_of bs ≡ r → told_by r bs ≡ Ok (of_config2 body) → (16 ≤ length bs) × (body_of bs ≡ body)
told_config (Err e) bs body h p = absurd (err_not_ok p)
told_config (Ok r) bs body h p =
    let right = cond (checks bs) (Ok (telling r.kind (body_of bs))) (Err fault.CheckWord) in
    let a = passed (eqb r.size (length bs)) right fault.FrameSize (of_config2 body) p in
    let b = passed (checks bs) (Ok (telling r.kind (body_of bs))) fault.CheckWord (of_config2 body) a.1 in
    let e : telling r.kind (body_of bs) ≡ of_config2 body = cc in
    (told-header bs r h, telling_config r.kind (body_of bs) body e)

config_body : (r : Result Told Fault) (body : List ℕ) → config_body_of r ≡ Ok body → r ≡ Ok (of_config2 body)
config_body (Ok (of_data b)) body p = absurd (err_not_ok p)
config_body (Ok (of_config2 b)) body p = cc
config_body (Ok (of_other b)) body p = absurd (err_not_ok p)
config_body (Err e) body p = absurd (err_not_ok p)

port_from_lem : (rate id : ℕ) (r : Result Says Fault) (q : PortOf) → port_from rate id r ≡ Ok q → (c : Says) × (r ≡ Ok c) × (q.stations ≡ c.stations)
port_from_lem rate id (Err e) q p = absurd (err_not_ok p)
port_from_lem rate id (Ok c) q p =
    let made : PortOf = record { id = id; base = c.base; stations = c.stations } in
    let a = passed (eqb c.rate rate) (Ok made) fault.Rate q p in
    let e : made ≡ q = cc in
    (c, refl, ap (λ (x : PortOf). x.stations) (sym e))

bodied_ok : (rate id : ℕ) (r : Result (List ℕ) Fault) (q : PortOf) → bodied rate id r ≡ Ok q → (body : List ℕ) × (r ≡ Ok body) × (port_from rate id (configured body 8) ≡ Ok q)
bodied_ok rate id (Err e) q p = absurd (err_not_ok p)
bodied_ok rate id (Ok body) q p = (body, refl, (not_stopped (reserved id) (port_from rate id (configured body 8)) fault.IdCode q p).1)

-- the parts of a frame's body are those of the frame
parts_of_body : (bs : List ℕ) → 24 ≤ length bs → parts_of (body_of bs) ≡ parts_in bs
parts_of_body bs h =
    let n = length bs in
    let d = length-drop 14 bs in
    let whole = length-take-le (n - 16) (drop 14 bs) (omega (arith, d)) in
    let inner : drop 6 (take (6 + (n - 22)) (drop 14 bs)) ≡ take (n - 22) (drop 20 bs) = drop-take 6 (n - 22) (drop 14 bs) ∙ ap (take (n - 22)) (drop-drop 6 14 bs) in
    let long : n - 16 ≡ 6 + (n - 22) = omega arith in
    let size : length (body_of bs) - 8 ≡ n - 24 = omega (arith, whole) in
    ap (λ k. take k (drop 6 (body_of bs))) size
    ∙ (ap (λ k. take (n - 24) (drop 6 (take k (drop 14 bs)))) long ∙ (ap (take (n - 24)) inner ∙ take-take (n - 24) (n - 22) (drop 20 bs) (omega arith)))

pub record AskedFacts (bytes : List ℕ) (q : PortOf) : Type 0 where
  pub long : 24 ≤ length bytes
  pub parts : length (parts_in bytes) ≡ part_lengths q.stations
  pub bound : part_lengths q.stations ≤ 1070 * length q.stations + 10 * data_length q.stations
  pub read : stations_in (length q.stations) 0 (parts_in bytes) ≡ Ok q.stations
  pub same : stations_of bytes ≡ q.stations
  pub some : 1 ≤ length q.stations
  pub most : length q.stations ≤ 8

pub asked_exact : (rate : ℕ) (bytes : List ℕ) (q : PortOf) → asked rate bytes ≡ Ok q → AskedFacts bytes q
unfolding asked
asked_exact rate bytes q p =
    let a = bodied_ok rate (be16 bytes 4) (config_body_of (classified bytes)) q p in
    let body = a.0 in
    let t = told_config (header_of bytes) bytes body refl (config_body (classified bytes) body a.1) in
    let f = port_from_lem rate (be16 bytes 4) (configured body 8) q a.2 in
    let c = f.0 in
    let k = config_exact body 8 c f.1 in
    let d = length-drop 14 bytes in
    let whole = length-take-le (length bytes - 16) (drop 14 bytes) (omega (arith, d)) in
    let long : 24 ≤ length bytes = omega (arith, t.0, k.long, whole, ap length t.1) in
    let parts : parts_of body ≡ parts_in bytes = ap parts_of (sym t.1) ∙ parts_of_body bytes long in
    let read : stations_in (be16 body 4) 0 (parts_in bytes) ≡ Ok q.stations =
    ap (stations_in (be16 body 4) 0) (sym parts) ∙ (k.stations ∙ ap Ok (sym f.2)) in
    let x = stations_exact (be16 body 4) 0 (parts_in bytes) q.stations read in
    record {
      long = long;
      parts = x.whole;
      bound = parts-bound q.stations x.small;
      read = ap (λ n. stations_in n 0 (parts_in bytes)) x.count ∙ read;
      same = ap (λ b. stations_by (configured b 8)) t.1 ∙ (ap stations_by f.1 ∙ sym f.2);
      some = omega (arith, x.count, k.some);
      most = omega (arith, x.count, k.within);
    }
