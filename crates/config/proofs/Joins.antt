-- Station parts behind one another describe the stations of both.
use Rattle.std.proofs.Common.{◌≡◌, ℕ, zero, suc, ◌+◌, ◌<◌, ◌≤◌, cond, leb, List, [], ◌∷◌, ◌++◌, length, drop, Ok, Err, sym, ap, ◌∙◌, zero-add, arith, length-append}
use Rattle.std.proofs.lemmas.List.{get_or_append_left, drop-append-le}
use Rattle.std.proofs.lemmas.Bool.{cond-true, cond-false, le-leb}
use Rattle.common.specs.declared.fault.Fault.TheVariants as fault
use Rattle.common.specs.Ids.{reserved}
use Rattle.fields.specs.Fields.{be16}
use Rattle.config.specs.declared.station.Station.{Station}
use Rattle.config.specs.Stations.{part_length, shape_at, few, station_judged, station_at, stations_in, before, onward}
use Rattle.config.proofs.Exact.{StationFacts, stations_nil, stations-first}

-- the number of a station shows only in refusals
station-made : (bs : List ℕ) (k : ℕ) (s : Station) → StationFacts bs s → station_at bs k ≡ Ok s
station-made bs k s f =
    let n = length bs in
    let whole = cond (leb (part_length s) n) (Ok s) (Err (fault.StationLength k)) in
    cond-true (leb 26 n) (station_judged (shape_at bs) k n) (Err (fault.StationLength k)) (le-leb 26 n f.begun)
    ∙ (ap (λ t. station_judged t k n) (sym f.shape)
    ∙ (cond-true (few s) (cond (reserved s.id.0) (Err fault.IdCode) whole) (Err (fault.StationLimit k)) f.small
    ∙ (cond-false (reserved s.id.0) (Err fault.IdCode) whole f.named
    ∙ cond-true (leb (part_length s) n) (Ok s) (Err (fault.StationLength k)) (le-leb (part_length s) n f.whole))))

-- a station is read the same with more bytes behind it
module _ (xs ys : List ℕ) (long : 26 ≤ length xs) where
  word_before : (i : ℕ) → i + 1 < 26 → be16 (xs ++ ys) i ≡ be16 xs i
  word_before i h =
      let a = get_or_append_left xs ys 0 i (omega arith) in let b = get_or_append_left xs ys 0 (i + 1) (omega arith) in omega (arith, a, b)

  shape-before : shape_at (xs ++ ys) ≡ shape_at xs
  shape-before =
      λ i. record {
        id = record { 0 = word_before 16 (omega arith) i };
        format = record { 0 = word_before 18 (omega arith) i };
        phasors = word_before 20 (omega arith) i;
        analogs = word_before 22 (omega arith) i;
        digitals = word_before 24 (omega arith) i;
      }

station_longer : (xs ys : List ℕ) (s : Station) → StationFacts xs s → StationFacts (xs ++ ys) s
station_longer xs ys s f =
    let l = length-append xs ys in
    record {
      shape = f.shape ∙ sym (shape-before xs ys f.begun);
      small = f.small;
      named = f.named;
      whole = omega (arith, l, f.whole);
      begun = omega (arith, l, f.begun);
    }

-- one station before others
stations_cons : (n k : ℕ) (bs : List ℕ) (s : Station) (ts : List Station) → StationFacts bs s → stations_in n (k + 1) (drop (part_length s) bs) ≡ Ok ts → stations_in (suc n) k bs ≡ Ok (s ∷ ts)
unfolding stations_in
stations_cons n k bs s ts f p =
    ap (λ r. onward r (λ t. stations_in n (k + 1) (drop (part_length t) bs))) (station-made bs k s f) ∙ ap (before (s ∷ [])) p

renumbered : (n k j : ℕ) (bs : List ℕ) (ss : List Station) → stations_in n k bs ≡ Ok ss → stations_in n j bs ≡ Ok ss
unfolding stations_in
renumbered zero k j bs ss p =
    let a = stations_nil k bs ss p in
    ap (stations_in zero j) a.0 ∙ ap Ok (sym a.1)
renumbered (suc n) k j bs ss p =
    let w = stations-first n k bs ss p in
    stations_cons n j bs w.0 w.1 w.2 (renumbered n (k + 1) (j + 1) (drop (part_length w.0) bs) w.1 w.3) ∙ ap Ok (sym w.4)

pub stations_join : (n m k j i : ℕ) (xs ys : List ℕ) (us vs : List Station) → stations_in n k xs ≡ Ok us → stations_in m j ys ≡ Ok vs → stations_in (n + m) i (xs ++ ys) ≡ Ok (us ++ vs)
stations_join zero m k j i xs ys us vs p q =
    let a = stations_nil k xs us p in
    ap (λ x. stations_in x i (xs ++ ys)) (zero-add m)
    ∙ (ap (λ x. stations_in m i (x ++ ys)) a.0 ∙ (renumbered m j i ys vs q ∙ ap (λ (x : List Station). Ok (x ++ vs)) (sym a.1)))
stations_join (suc n) m k j i xs ys us vs p q =
    let w = stations-first n k xs us p in
    let s = w.0 in
    let ts = w.1 in
    let next : suc n + m ≡ suc (n + m) = omega arith in
    let rest : stations_in (n + m) (i + 1) (drop (part_length s) (xs ++ ys)) ≡ Ok (ts ++ vs) =
    ap (stations_in (n + m) (i + 1)) (drop-append-le (part_length s) xs ys w.2.whole)
    ∙ stations_join n m (k + 1) j (i + 1) (drop (part_length s) xs) ys ts vs w.3 q in
    ap (λ x. stations_in x i (xs ++ ys)) next
    ∙ (stations_cons (n + m) i (xs ++ ys) s (ts ++ vs) (station_longer xs ys s w.2) rest ∙ ap (λ (x : List Station). Ok (x ++ vs)) (sym w.4))
