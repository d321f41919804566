-- What holds of a plan and its buffer after any calls.
use Rattle.std.proofs.Common.{◌≡◌, ℕ, ◌+◌, ◌*◌, ◌≤◌, List, [], ◌∷◌, ◌++◌, length, take, drop, Ok, Err, Result, sym, refl, ap, ◌∙◌, subst, append_assoc, arith}
use Rattle.std.specs.List.{flat_map}
use Rattle.std.proofs.lemmas.List.{append-nil, flat_map_more}
use Rattle.std.proofs.lemmas.List.Sums.{sum_by_push}
use Rattle.common.specs.declared.fault.Fault.{Fault}
use Rattle.fields.specs.Fields.{put, left_by}
use Rattle.config.specs.Stations.{stations_in}
use Rattle.config.proofs.Joins.{stations_join}
use Rattle.layout.specs.Blocks.{data_length}
use Rattle.plan.specs.Ports.{PortOf, station_count, body_length, part_lengths, parts_length}
use Rattle.plan.specs.Plans.{own, adds, add_plan, add_buffer, parts_in}
use Rattle.plan.specs.Publish.{published_length, publishes, published_frame}
use Rattle.plan.specs.Runs.{Call, adding, publishing, State, start, after_call, after_calls, accepted_by, accepted, if_accepted, stations_of}
use Rattle.plan.proofs.Accepts.{AddFacts, add_exact, publish_exact}
use Rattle.plan.proofs.Asked.{asked_exact}
use Rattle.plan.proofs.Held.{held-put, length-put, held-over, length_over}

-- a plan with a port has a right code and rate, a station, and room in its buffer
pub record Owned (s : State) : Type 0 where
  pub right : own s.plan ≡ Ok tt
  pub some : 1 ≤ station_count s.plan.ports
  pub room : published_length s.plan ≤ length s.buffer

-- the buffer holds the parts of the frames that were accepted, and these describe the stations of the ports
pub record Holds (id rate : ℕ) (s : State) (fs : List (List ℕ)) : Type 0 where
  pub code : s.plan.id ≡ id
  pub pace : s.plan.rate ≡ rate
  pub held : take (parts_length s.plan.ports) (drop 20 s.buffer) ≡ flat_map parts_in fs
  pub read : stations_in (station_count s.plan.ports) 0 (flat_map parts_in fs) ≡ Ok (flat_map stations_of fs)
  pub count : station_count s.plan.ports ≤ 32
  pub body : body_length s.plan.ports ≤ 1024
  pub bound : parts_length s.plan.ports ≤ 1070 * station_count s.plan.ports + 10 * body_length s.plan.ports
  pub owned : 1 ≤ length s.plan.ports → Owned s

holds-start : (id rate : ℕ) (buffer : List ℕ) → Holds id rate (start id rate buffer) []
unfolding stations_in
holds-start id rate buffer =
    record { code = refl; pace = refl; held = refl; read = refl; count = omega arith; body = omega arith; bound = omega arith; owned = λ h. absurd (omega arith) }

-- one frame more
frames-push : {A : Type 0} (f : List ℕ → List A) (fs : List (List ℕ)) (x : List ℕ) → flat_map f (fs ++ x ∷ []) ≡ flat_map f fs ++ f x
frames-push f fs x = sym (flat_map_more f [] fs x)

module _ (id rate : ℕ) (s : State) (fs : List (List ℕ)) (h : Holds id rate s fs) where
  after-accepted : (bytes : List ℕ) (q : PortOf) → AddFacts s.plan bytes (length s.buffer) q → Holds id rate (record { plan = add_plan s.plan (Ok q); buffer = add_buffer s.plan bytes (Ok q) s.buffer }) (fs ++ bytes ∷ [])
  after-accepted bytes q a =
      let ps = s.plan.ports in
      let f = asked_exact s.plan.rate bytes q a.asks in
      let new = parts_in bytes in
      let stations = sum_by_push (λ (p : PortOf). length p.stations) ps q in
      let bodies = sum_by_push (λ (p : PortOf). data_length p.stations) ps q in
      let parts = sum_by_push (λ (p : PortOf). part_lengths p.stations) ps q in
      let size : parts_length (ps ++ q ∷ []) ≡ parts_length ps + length new = omega (arith, parts, f.parts) in
      let fits : 24 + parts_length ps + length new ≤ length s.buffer = omega (arith, f.parts, a.room) in
      let buffer = put s.buffer (20 + parts_length ps) new in
      let same = length-put s.buffer new (parts_length ps) fits in
      record {
        code = h.code;
        pace = h.pace;
        held = ap (λ n. take n (drop 20 buffer)) size ∙ (held-put s.buffer new (parts_length ps) fits
            ∙ (ap (λ u. u ++ new) h.held ∙ sym (frames-push parts_in fs bytes)));
        read = ap (λ n. stations_in n 0 (flat_map parts_in (fs ++ bytes ∷ []))) stations
            ∙ (ap (stations_in (station_count ps + length q.stations) 0) (frames-push parts_in fs bytes)
            ∙ (stations_join (station_count ps) (length q.stations) 0 0 0 (flat_map parts_in fs) new (flat_map stations_of fs) q.stations h.read f.read
            ∙ (ap (λ u. Ok (flat_map stations_of fs ++ u)) (sym f.same) ∙ ap Ok (sym (frames-push stations_of fs bytes)))));
        count = omega (arith, stations, a.fits.stations);
        body = omega (arith, bodies, a.fits.body);
        bound = omega (arith, stations, bodies, parts, h.bound, f.bound);
        owned = λ _. record { right = a.right; some = omega (arith, stations, f.some); room = omega (arith, size, same, fits) };
      }

  same-frames : (s' : State) → Holds id rate s' fs → Holds id rate s' (fs ++ [])
  same-frames s' k = subst (Holds id rate s') (sym (append-nil fs)) k

  after_add : (bytes : List ℕ) (r : Result PortOf Fault) → adds s.plan bytes (length s.buffer) ≡ r → Holds id rate (record { plan = add_plan s.plan r; buffer = add_buffer s.plan bytes r s.buffer }) (fs ++ if_accepted r bytes)
  after_add bytes (Ok q) e = after-accepted bytes q (add_exact s.plan bytes (length s.buffer) q e)
  after_add bytes (Err e) _ = same-frames s h

  after_publish : (reading : ℕ) (r : Result ℕ Fault) → publishes s.plan reading (length s.buffer) ≡ r → Holds id rate (record { plan = s.plan; buffer = left_by r (published_frame s.plan reading s.buffer) s.buffer }) fs
  after_publish reading (Ok n) e =
      let f = publish_exact s.plan reading (length s.buffer) n e in
      let same = length_over s.plan reading s.buffer f.fits in
      record {
        code = h.code;
        pace = h.pace;
        held = held-over s.plan reading s.buffer f.fits ∙ h.held;
        read = h.read;
        count = h.count;
        body = h.body;
        bound = h.bound;
        owned = λ k. let o = h.owned k in record { right = o.right; some = o.some; room = omega (arith, same, o.room) };
      }
  after_publish reading (Err e) _ = h

  after_call_lem : (c : Call) → Holds id rate (after_call s c) (fs ++ accepted_by s c)
  after_call_lem (adding bytes) = after_add bytes (adds s.plan bytes (length s.buffer)) refl
  after_call_lem (publishing reading) =
      same-frames (after_call s (publishing reading)) (after_publish reading (publishes s.plan reading (length s.buffer)) refl)

after_calls_lem : (id rate : ℕ) (s : State) (fs : List (List ℕ)) (cs : List Call) → Holds id rate s fs → Holds id rate (after_calls s cs) (fs ++ accepted s cs)
after_calls_lem id rate s fs [] h = subst (Holds id rate s) (sym (append-nil fs)) h
after_calls_lem id rate s fs (c ∷ cs) h =
    subst (Holds id rate (after_calls (after_call s c) cs)) (append_assoc fs (accepted_by s c) (accepted (after_call s c) cs))
    (after_calls_lem id rate (after_call s c) (fs ++ accepted_by s c) cs (after_call_lem id rate s fs h c))

pub holds : (id rate : ℕ) (buffer : List ℕ) (cs : List Call) → Holds id rate (after_calls (start id rate buffer) cs) (accepted (start id rate buffer) cs)
holds id rate buffer cs = after_calls_lem id rate (start id rate buffer) [] cs (holds-start id rate buffer)
