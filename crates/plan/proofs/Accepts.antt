-- What an add or a publish that is not refused says of the plan.
use Rattle.std.proofs.Common.{◌≡◌, ℕ, ◌+◌, ◌<◌, ◌≤◌, false, cond, ◌||◌, eqb, ltb, leb, List, length, Ok, Err, Result, sym, refl, ap, ◌∙◌, arith}
use Rattle.std.proofs.lemmas.Bool.{leb-false, ltb-false, eqb-false, or_parts}
use Rattle.common.specs.declared.fault.Fault.{Fault}
use Rattle.common.specs.declared.fault.Fault.TheVariants as fault
use Rattle.config.proofs.Exact.{err_not_ok, not_stopped}
use Rattle.layout.specs.Blocks.{data_length}
use Rattle.plan.specs.Ports.{PortOf, station_count, body_length, part_lengths, parts_length}
use Rattle.plan.specs.Plans.{PlanOf, own, asked, full, short, with_room, addable, adds}
use Rattle.plan.specs.Publish.{published_length, publishes}

-- what a plan that is not full has room for
pub record Roomy (ps : List PortOf) (q : PortOf) : Type 0 where
  pub ports : length ps < 16
  pub stations : station_count ps + length q.stations ≤ 32
  pub body : body_length ps + data_length q.stations ≤ 1024

pub roomy : (ps : List PortOf) (q : PortOf) → full ps q ≡ false → Roomy ps q
roomy ps q e =
    let many = ltb 32 (station_count ps + length q.stations) in
    let long = ltb 1024 (body_length ps + data_length q.stations) in
    let a = or_parts (leb 16 (length ps)) (many || long) e in
    let b = or_parts many long a.1 in
    record {
      ports = leb-false 16 (length ps) a.0;
      stations = ltb-false 32 (station_count ps + length q.stations) b.0;
      body = ltb-false 1024 (body_length ps + data_length q.stations) b.1;
    }

pub placed_ok : (ps : List PortOf) (room : ℕ) (r : Result PortOf Fault) (q : PortOf) → with_room ps room r ≡ Ok q → (r ≡ Ok q) × (full ps q ≡ false) × (short ps q room ≡ false)
placed_ok ps room (Err e) q p = absurd (err_not_ok p)
placed_ok ps room (Ok x) q p =
    let a = not_stopped (full ps x) (cond (short ps x room) (Err fault.Buffer) (Ok x)) fault.PlanFull q p in
    let b = not_stopped (short ps x room) (Ok x) fault.Buffer q a.1 in
    let e : x ≡ q = cc in
    (b.1, ap (full ps) (sym e) ∙ a.0, ap (λ y. short ps y room) (sym e) ∙ b.0)

judged_ok : (r : Result Unit Fault) (p : PlanOf) (bytes : List ℕ) (room : ℕ) (q : PortOf) → addable r p bytes room ≡ Ok q → (r ≡ Ok tt) × (with_room p.ports room (asked p.rate bytes) ≡ Ok q)
judged_ok (Ok u) p bytes room q h = (refl, h)
judged_ok (Err e) p bytes room q h = absurd (err_not_ok h)

-- an add that is accepted
pub record AddFacts (p : PlanOf) (bytes : List ℕ) (size : ℕ) (q : PortOf) : Type 0 where
  pub right : own p ≡ Ok tt
  pub asks : asked p.rate bytes ≡ Ok q
  pub fits : Roomy p.ports q
  pub room : 20 + parts_length p.ports + part_lengths q.stations + 4 ≤ size

pub add_exact : (p : PlanOf) (bytes : List ℕ) (size : ℕ) (q : PortOf) → adds p bytes size ≡ Ok q → AddFacts p bytes size q
add_exact p bytes size q h =
    let a = judged_ok (own p) p bytes size q h in
    let b = placed_ok p.ports size (asked p.rate bytes) q a.1 in
    record {
      right = a.0;
      asks = b.0;
      fits = roomy p.ports q b.1;
      room = ltb-false size (20 + parts_length p.ports + part_lengths q.stations + 4) b.2;
    }

-- a publish that succeeds
pub record PublishFacts (p : PlanOf) (reading room n : ℕ) : Type 0 where
  pub size : n ≡ published_length p
  pub fits : published_length p ≤ room
  pub tells : reading ≤ 4000000000000000
  pub some : 1 ≤ length p.ports

pub publish_exact : (p : PlanOf) (reading room n : ℕ) → publishes p reading room ≡ Ok n → PublishFacts p reading room n
publish_exact p reading room n h =
    let answer : Result ℕ Fault = Ok (published_length p) in
    let third = cond (eqb (length p.ports) 0) (Err fault.EmptyPlan) answer in
    let second = cond (ltb 4000000000000000 reading) (Err fault.Reading) third in
    let a = not_stopped (ltb room (published_length p)) second fault.Buffer n h in
    let b = not_stopped (ltb 4000000000000000 reading) third fault.Reading n a.1 in
    let c = not_stopped (eqb (length p.ports) 0) answer fault.EmptyPlan n b.1 in
    let some = eqb-false (length p.ports) 0 c.0 in
    record {
      size = cc;
      fits = ltb-false room (published_length p) a.0;
      tells = ltb-false 4000000000000000 reading b.0;
      some = omega (arith, some);
    }
