-- The walk over the station parts: one station more, and its end.
use Rattle.std.proofs.Common.{◌≡◌, ℕ, suc, ◌+◌, ◌-◌, ◌<◌, ◌≤◌, eqb, List, [], ◌∷◌, ◌++◌, length, drop, Ok, Err, Result, sym, refl, ap, ◌∙◌, append_assoc, arith}
use Rattle.std.proofs.lemmas.List.{append-nil}
use Rattle.std.proofs.lemmas.Bool.{cond-true, cond-false, eq-eqb, ne_eqb}
use Rattle.common.specs.declared.fault.Fault.{Fault}
use Rattle.common.specs.declared.fault.Fault.TheVariants.{StationLength}
use Rattle.config.specs.declared.station.Station.{Station}
use Rattle.config.specs.Stations.{part_length, station_at, stations_in, before, onward, ended}

before-before : (a b : List Station) (r : Result (List Station) Fault) → before a (before b r) ≡ before (a ++ b) r
before-before a b (Ok ts) = ap Ok (sym (append_assoc a b ts))
before-before a b (Err e) = refl

-- what is left to read, k of n stations being read
module _ (n k : ℕ) (bs : List ℕ) (a : List Station) where
  next : Station → Result (List Station) Fault
  next s = stations_in (n - (k + 1)) (k + 1) (drop (part_length s) bs)

  turn : k < n → stations_in (n - k) k bs ≡ onward (station_at bs k) next
  unfolding stations_in next
  turn h = let e : n - k ≡ suc (n - (k + 1)) = omega arith in ap (λ m. stations_in m k bs) e

  pub walk_stops : (e : Fault) → k < n → station_at bs k ≡ Err e → before a (stations_in (n - k) k bs) ≡ Err e
  walk_stops e h p = ap (before a) (turn h ∙ ap (λ r. onward r next) p)

  pub walk_goes : (s : Station) → k < n → station_at bs k ≡ Ok s → before a (stations_in (n - k) k bs) ≡ before (a ++ s ∷ []) (stations_in (n - (k + 1)) (k + 1) (drop (part_length s) bs))
  unfolding next
  walk_goes s h p = ap (before a) (turn h ∙ ap (λ r. onward r next) p) ∙ before-before a (s ∷ []) (next s)

  at_end : n ≤ k → before a (stations_in (n - k) k bs) ≡ before a (ended bs k)
  unfolding stations_in
  at_end h = let e : n - k ≡ 0 = omega arith in ap (λ m. before a (stations_in m k bs)) e

  pub walk_ends : n ≤ k → length bs ≡ 0 → before a (stations_in (n - k) k bs) ≡ Ok a
  walk_ends h z =
      at_end h ∙ (ap (before a) (cond-true (eqb (length bs) 0) (Ok []) (Err (StationLength k)) (eq-eqb (length bs) 0 z)) ∙ ap Ok (append-nil a))

  pub walk_overruns : n ≤ k → (length bs ≡ 0 → ⊥) → before a (stations_in (n - k) k bs) ≡ Err (StationLength k)
  walk_overruns h z =
      at_end h ∙ ap (before a) (cond-false (eqb (length bs) 0) (Ok []) (Err (StationLength k)) (ne_eqb (length bs) 0 z))
