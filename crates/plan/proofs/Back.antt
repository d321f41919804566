-- What was published reads back as the stations that went in.
use Rattle.std.proofs.Common.{◌≡◌, ℕ, ◌+◌, ◌-◌, ◌/◌, ◌%◌, ◌^◌, ◌<◌, ◌≤◌, false, cond, ◌&&◌, leb, List, [], ◌∷◌, ◌++◌, length, get_or, take, drop, Ok, Err, sym, refl, ap, ◌∙◌, subst, arith, length-append}
use Rattle.std.specs.List.{flat_map}
use Rattle.std.proofs.lemmas.List.{get_or_at, get_or-append-add, take_at}
use Rattle.common.specs.declared.fault.Fault.TheVariants as fault
use Rattle.common.specs.Ids.{reserved}
use Rattle.fields.specs.Fields.{be16, bytes16, bytes32, left_by}
use Rattle.wire.specs.Headers.{header_of}
use Rattle.wire.specs.Frames.{of_config2, classified, body_of, sealed}
use Rattle.wire.specs.Laws.{Fits}
use Rattle.wire.proofs.Again.{told-again}
use Rattle.config.specs.declared.station.Station.{Station}
use Rattle.config.specs.Stations.{stations_in}
use Rattle.config.specs.Configs.{configured, parts_of, saying}
use Rattle.config.proofs.Exact.{not_stopped, config_made}
use Rattle.plan.specs.Ports.{station_count, parts_length}
use Rattle.plan.specs.Plans.{PlanOf, own}
use Rattle.plan.specs.Publish.{published_length, publishes, published_body, published_header, published_frame}
use Rattle.plan.specs.Runs.{State, publishing, start, after_call, after_calls, accepted, stations_of}
use Rattle.plan.specs.Laws.{Combines, ReadsBack}
use Rattle.plan.proofs.Accepts.{PublishFacts, publish_exact}
use Rattle.plan.proofs.Asked.{told_config}
use Rattle.plan.proofs.Held.{length-held, length-body, length-frame}
use Rattle.plan.proofs.Holds.{Holds, holds}

own-named : (p : PlanOf) → own p ≡ Ok tt → reserved p.id ≡ false
own-named p h = (not_stopped (reserved p.id) (cond (leb 1 p.rate && leb p.rate 120) (Ok tt) (Err fault.Rate)) fault.IdCode tt h).0

-- a body that was published
module _ (p : PlanOf) (buffer : List ℕ) (room : published_length p ≤ length buffer) where
  body-parts : parts_of (published_body p buffer) ≡ take (parts_length p.ports) (drop 20 buffer)
  body-parts =
      let l = length-body p buffer room in
      let k = length-held p buffer room in
      take_at (take (parts_length p.ports) (drop 20 buffer)) (bytes16 p.rate) (length (published_body p buffer) - 8) (omega (arith, l, k))

  body-rate : p.rate < 2 ^ 16 → be16 (published_body p buffer) (length (published_body p buffer) - 2) ≡ p.rate
  body-rate h =
      let body = published_body p buffer in
      let front = bytes32 1000000 ++ (bytes16 (station_count p.ports) ++ take (parts_length p.ports) (drop 20 buffer)) in
      let v = p.rate in
      let l = length-append front (bytes16 v) in
      let k : length body - 2 ≡ length front = omega (arith, l) in
      let high : get_or body (length front) 0 ≡ v / 256 % 256 = get_or_at front (v / 256 % 256) (v % 256 ∷ []) 0 (length front) refl in
      let low : get_or body (length front + 1) 0 ≡ v % 256 = get_or-append-add front (bytes16 v) 1 0 in
      ap (be16 body) k ∙ omega (arith, high, low)

  body-read : (ss : List Station) → p.rate < 2 ^ 16 → 1 ≤ station_count p.ports → station_count p.ports ≤ 32 → stations_in (station_count p.ports) 0 (take (parts_length p.ports) (drop 20 buffer)) ≡ Ok ss → configured (published_body p buffer) 32 ≡ Ok (record { base = 1000000; stations = ss; rate = p.rate })
  body-read ss slow some few read =
      let body = published_body p buffer in
      let count = station_count p.ports in
      let l = length-body p buffer room in
      config_made body 32 1000000 count refl (omega arith) (omega (arith, l)) (omega arith) some (omega arith)
      ∙ (ap (λ r. saying 1000000 r (stations_in count 0 (parts_of body))) (body-rate slow)
      ∙ ap (saying 1000000 p.rate) (ap (stations_in count 0) body-parts ∙ read))

module _ (id rate reading n : ℕ) (s : State) (fs : List (List ℕ)) (h : Holds id rate s fs) (small : id < 2 ^ 16) (slow : rate < 2 ^ 16) (e : publishes s.plan reading (length s.buffer) ≡ Ok n) where
  facts : PublishFacts s.plan reading (length s.buffer) n
  facts = publish_exact s.plan reading (length s.buffer) n e

  header-fits : Fits (published_header s.plan reading)
  header-fits =
      let f = facts in
      record {
        size = omega (arith, h.bound, h.count, h.body);
        id = omega (arith, h.code);
        soc = omega (arith, f.tells);
        count = omega arith;
      }

  frame-combines : Combines (published_frame s.plan reading s.buffer) id rate fs
  unfolding sealed
  frame-combines =
      let p = s.plan in
      let frame = published_frame p reading s.buffer in
      let body = published_body p s.buffer in
      let o = h.owned facts.some in
      let l = length-body p s.buffer facts.fits in
      let told : classified frame ≡ Ok (of_config2 body) = told-again (published_header p reading) body header-fits (omega (arith, l)) in
      let is : body_of frame ≡ body = (told_config (header_of frame) frame body refl told).1 in
      let read =
      body-read p s.buffer facts.fits (flat_map stations_of fs) (omega (arith, h.pace)) o.some h.count
      (ap (stations_in (station_count p.ports) 0) h.held ∙ h.read) in
      record {
        told = told ∙ ap (λ b. Ok (of_config2 b)) (sym is);
        sender = omega (arith, h.code);
        named = ap reserved (sym h.code) ∙ own-named p o.right;
        read = ap (λ b. configured b 32) is ∙ (read ∙ ap (λ r. Ok (record { base = 1000000; stations = flat_map stations_of fs; rate = r })) h.pace);
        parts = ap parts_of is ∙ (body-parts p s.buffer facts.fits ∙ h.held);
      }

  combines : Combines (take n (after_call s (publishing reading)).buffer) id rate fs
  combines =
      let frame = published_frame s.plan reading s.buffer in
      let size = length-frame s.plan reading s.buffer facts.fits in
      let left : take n (after_call s (publishing reading)).buffer ≡ frame =
      ap (λ r. take n (left_by r frame s.buffer)) e ∙ take_at frame (drop (length frame) s.buffer) n (size ∙ sym facts.size) in
      subst (λ f. Combines f id rate fs) (sym left) frame-combines

pub reads-back : ReadsBack
reads-back id rate buffer calls reading n small slow e =
    combines id rate reading n (after_calls (start id rate buffer) calls) (accepted (start id rate buffer) calls) (holds id rate buffer calls) small slow e
