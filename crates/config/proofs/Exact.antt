-- What station parts that were read say of their bytes.
use Rattle.std.proofs.Common.{◌≡◌, ℕ, zero, suc, ◌+◌, ◌-◌, ◌≤◌, min, Bool, true, false, cond, ◌||◌, eqb, ltb, leb, List, [], ◌∷◌, ◌++◌, length, drop, Ok, Err, sum_by, Result, sym, refl, ap, ◌∙◌, subst, arith, length-drop}
use Rattle.std.specs.List.{AllByRecursion as All}
use Rattle.std.proofs.lemmas.List.{nil_from_length}
use Rattle.std.proofs.lemmas.List.Sums.{sum_by-cons}
use Rattle.std.proofs.lemmas.Bool.{cond-false, leb-true, eqb-true, ltb-false, le-ltb, or_parts, or_from}
use Rattle.common.specs.declared.fault.Fault.{Fault}
use Rattle.common.specs.declared.fault.Fault.TheVariants as fault
use Rattle.common.specs.Ids.{reserved}
use Rattle.fields.specs.Fields.{be16, be24}
use Rattle.config.specs.declared.station.Station.{Station}
use Rattle.config.specs.Stations.{part_length, shape_at, few, station_judged, station_at, stations_in, before, onward}
use Rattle.config.specs.Configs.{Says, configured, past_limits, saying, parts_of}

pub err_not_ok : {A : Type 0} {e : Fault} {x : A} → Err e ≡ Ok x → ⊥
err_not_ok p = cc

-- an answer that is not a refusal passed the tests before it
pub passed : {A : Type 0} (b : Bool) (r : Result A Fault) (e : Fault) (x : A) → cond b r (Err e) ≡ Ok x → (b ≡ true) × (r ≡ Ok x)
passed true r e x p = (refl, p)
passed false r e x p = absurd (err_not_ok p)

pub not_stopped : {A : Type 0} (b : Bool) (r : Result A Fault) (e : Fault) (x : A) → cond b (Err e) r ≡ Ok x → (b ≡ false) × (r ≡ Ok x)
not_stopped false r e x p = (refl, p)
not_stopped true r e x p = absurd (err_not_ok p)

-- a station that was read
pub record StationFacts (bs : List ℕ) (s : Station) : Type 0 where
  pub shape : s ≡ shape_at bs
  pub small : few s ≡ true
  pub named : reserved s.id.0 ≡ false
  pub whole : part_length s ≤ length bs
  pub begun : 26 ≤ length bs

pub station_exact : (bs : List ℕ) (k : ℕ) (s : Station) → station_at bs k ≡ Ok s → StationFacts bs s
station_exact bs k s p =
    let h = shape_at bs in
    let whole = cond (leb (part_length h) (length bs)) (Ok h) (Err (fault.StationLength k)) in
    let a = passed (leb 26 (length bs)) (station_judged h k (length bs)) (fault.StationLength k) s p in
    let b = passed (few h) (cond (reserved h.id.0) (Err fault.IdCode) whole) (fault.StationLimit k) s a.1 in
    let c = not_stopped (reserved h.id.0) whole fault.IdCode s b.1 in
    let d = passed (leb (part_length h) (length bs)) (Ok h) (fault.StationLength k) s c.1 in
    let e : h ≡ s = cc in
    record {
      shape = sym e;
      small = ap few (sym e) ∙ b.0;
      named = ap (λ (t : Station). reserved t.id.0) (sym e) ∙ c.0;
      whole = subst (λ (t : Station). part_length t ≤ length bs) e (leb-true (part_length h) (length bs) d.0);
      begun = leb-true 26 (length bs) a.0;
    }

before_ok : (a : List Station) (r : Result (List Station) Fault) (ss : List Station) → before a r ≡ Ok ss → (ts : List Station) × (r ≡ Ok ts) × (ss ≡ a ++ ts)
before_ok a (Ok ts) ss p = (ts, refl, cc)
before_ok a (Err e) ss p = absurd (err_not_ok p)

onward_ok : (r : Result Station Fault) (f : Station → Result (List Station) Fault) (ss : List Station) → onward r f ≡ Ok ss → (s : Station) × (ts : List Station) × (r ≡ Ok s) × (f s ≡ Ok ts) × (ss ≡ s ∷ ts)
onward_ok (Ok s) f ss p = let b = before_ok (s ∷ []) (f s) ss p in (s, b.0, refl, b.1, b.2)
onward_ok (Err e) f ss p = absurd (err_not_ok p)

-- the bytes of no stations, and of one station and others
pub stations_nil : (k : ℕ) (bs : List ℕ) (ss : List Station) → stations_in zero k bs ≡ Ok ss → (bs ≡ []) × (ss ≡ [])
unfolding stations_in
stations_nil k bs ss p =
    let a = passed (eqb (length bs) 0) (Ok []) (fault.StationLength k) ss p in
    (nil_from_length bs (eqb-true (length bs) 0 a.0), cc)

pub stations-first : (n k : ℕ) (bs : List ℕ) (ss : List Station) → stations_in (suc n) k bs ≡ Ok ss → (s : Station) × (ts : List Station) × StationFacts bs s × (stations_in n (k + 1) (drop (part_length s) bs) ≡ Ok ts) × (ss ≡ s ∷ ts)
unfolding stations_in
stations-first n k bs ss p =
    let w = onward_ok (station_at bs k) (λ s. stations_in n (k + 1) (drop (part_length s) bs)) ss p in
    (w.0, w.1, station_exact bs k w.0 w.2, w.3, w.4)

-- the parts hold just the stations, none of which is too large
pub record StationsFacts (n : ℕ) (bs : List ℕ) (ss : List Station) : Type 0 where
  pub whole : length bs ≡ sum_by part_length ss
  pub count : length ss ≡ n
  pub small : All (λ s. few s ≡ true) ss

pub stations_exact : (n k : ℕ) (bs : List ℕ) (ss : List Station) → stations_in n k bs ≡ Ok ss → StationsFacts n bs ss
stations_exact zero k bs ss p =
    let a = stations_nil k bs ss p in
    subst (StationsFacts zero bs) (sym a.1) (record { whole = ap length a.0; count = refl; small = tt })
stations_exact (suc n) k bs ss p =
    let w = stations-first n k bs ss p in
    let s = w.0 in
    let ts = w.1 in
    let f = w.2 in
    let rest = stations_exact n (k + 1) (drop (part_length s) bs) ts w.3 in
    let d = length-drop (part_length s) bs in
    let sum = sum_by-cons part_length s ts in
    subst (StationsFacts (suc n) bs) (sym w.4)
    (record { whole = omega (arith, f.whole, rest.whole, d, sum); count = ap suc rest.count; small = (f.small, rest.small) })

-- a configuration that was read
pub record ConfigFacts (body : List ℕ) (most : ℕ) (c : Says) : Type 0 where
  pub long : 8 ≤ length body
  pub some : 1 ≤ be16 body 4
  pub within : be16 body 4 ≤ most
  pub stations : stations_in (be16 body 4) 0 (parts_of body) ≡ Ok c.stations

saying_ok : (base rate : ℕ) (r : Result (List Station) Fault) (c : Says) → saying base rate r ≡ Ok c → r ≡ Ok c.stations
saying_ok base rate (Ok ss) c p = let e : record { base = base; stations = ss; rate = rate } ≡ c = cc in ap (λ (d : Says). Ok d.stations) e
saying_ok base rate (Err e) c p = absurd (err_not_ok p)

pub config_exact : (body : List ℕ) (most : ℕ) (c : Says) → configured body most ≡ Ok c → ConfigFacts body most c
config_exact body most c p =
    let base = be24 body 1 in
    let count = be16 body 4 in
    let rate = be16 body (length body - 2) in
    let said = saying base rate (stations_in count 0 (parts_of body)) in
    let a = not_stopped (ltb (length body) 8) (cond (past_limits base count most) (Err (fault.StationLimit 0)) said) (fault.StationLength 0) c p in
    let b = not_stopped (past_limits base count most) said (fault.StationLimit 0) c a.1 in
    let limits = or_parts (ltb count 1) (ltb (min most 32) count) (or_parts (ltb base 1000) (ltb count 1 || ltb (min most 32) count) b.0).1 in
    let least = ltb-false (min most 32) count limits.1 in
    record {
      long = ltb-false (length body) 8 a.0;
      some = ltb-false count 1 limits.0;
      within = omega (arith, least);
      stations = saying_ok base rate (stations_in count 0 (parts_of body)) c b.1;
    }

-- and one that is within its limits is as its stations
pub config_made : (body : List ℕ) (most base count : ℕ) → be24 body 1 ≡ base → be16 body 4 ≡ count → 8 ≤ length body → 1000 ≤ base → 1 ≤ count → count ≤ min most 32 → configured body most ≡ saying base (be16 body (length body - 2)) (stations_in count 0 (parts_of body))
config_made body most base count b n long fine some within =
    let past : past_limits base count most ≡ false =
    or_from (ltb base 1000) (ltb count 1 || ltb (min most 32) count) (le-ltb base 1000 fine)
    (or_from (ltb count 1) (ltb (min most 32) count) (le-ltb count 1 some) (le-ltb (min most 32) count within)) in
    let rate = be16 body (length body - 2) in
    cond-false (ltb (length body) 8) (Err (fault.StationLength 0)) (cond (past_limits (be24 body 1) (be16 body 4) most) (Err (fault.StationLimit 0)) (saying (be24 body 1) rate (stations_in (be16 body 4) 0 (parts_of body)))) (le-ltb (length body) 8 long)
    ∙ (ap (λ x. cond (past_limits x (be16 body 4) most) (Err (fault.StationLimit 0)) (saying x rate (stations_in (be16 body 4) 0 (parts_of body)))) b
    ∙ (ap (λ x. cond (past_limits base x most) (Err (fault.StationLimit 0)) (saying base rate (stations_in x 0 (parts_of body)))) n
    ∙ cond-false (past_limits base count most) (Err (fault.StationLimit 0)) (saying base rate (stations_in count 0 (parts_of body))) past))
