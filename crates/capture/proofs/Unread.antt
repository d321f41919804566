-- What reads as a capture was written as one.
use Rattle.std.proofs.Common.{◌≡◌, ℕ, zero, suc, ◌+◌, ◌*◌, ◌/◌, ◌%◌, ◌<◌, ◌≤◌, Bool, true, false, cond, ◌&&◌, ◌||◌, List, [], ◌∷◌, ◌++◌, length, get_or, take, drop, Some, None, Ok, Err, sym, refl, ap, ◌∙◌, subst, ⊎_elim, arith, length-drop}
use Rattle.std.specs.List.{flat_map}
use Rattle.std.specs.Str.{bytes_eq}
use Rattle.std.proofs.lemmas.Slice.Eq.{bytes_eq-Decides}
use Rattle.std.proofs.lemmas.List.{drop_more, take-append-drop, length-take-le, get_or-drop, nil_from_length}
use Rattle.std.proofs.lemmas.Bool.{cases_lt, and_parts, cond-true, eqb-true, ne_eqb}
use Rattle.common.specs.declared.fault.Fault.TheVariants.{Unsound}
use Rattle.fields.specs.Fields.{be8, be16, be32, be64, bytes16, bytes32}
use Rattle.capture.specs.Records.{Entry, entry_at, behind, sound_at, leading, sound_behind, header, entries, entries_of, records_of}
use Rattle.capture.specs.Laws.{bytes64, record_bytes, capture_bytes, Sound, Sounds, ReadWasWritten}
use Rattle.capture.proofs.Written.{long-low}
use Rattle.capture.proofs.Walk.{Sized, sized, sound-first, leading-none, empty_cut}

abbrev Bytes : List ℕ → Type 0
Bytes bs = (k : ℕ) → get_or bs k 0 < 256

-- ---- a number's bytes are those that it was read from
word_bytes : (a b : ℕ) → a < 256 → b < 256 → bytes16 (a * 256 + b) ≡ a ∷ b ∷ []
word_bytes a b p q =
    let x : (a * 256 + b) / 256 % 256 ≡ a = omega arith in let y : (a * 256 + b) % 256 ≡ b = omega arith in cc

long-bytes : (a b c d : ℕ) → a < 256 → b < 256 → c < 256 → d < 256 → bytes32 ((a * 256 + b) * 65536 + (c * 256 + d)) ≡ a ∷ b ∷ c ∷ d ∷ []
long-bytes a b c d p q r s =
    let v = (a * 256 + b) * 65536 + (c * 256 + d) in
    let w : v / 16777216 % 256 ≡ a = omega arith in
    let x : v / 65536 % 256 ≡ b = omega arith in
    let y : v / 256 % 256 ≡ c = omega arith in
    let z : v % 256 ≡ d = omega arith in
    cc

-- ---- the bytes of a sound record
module _ (bs : List ℕ) (low : ℕ) (all : Bytes bs) (s : Sized low bs) where
  abbrev firsts : List ℕ
  firsts = be8 bs 0 ∷ be8 bs 1 ∷ be8 bs 2 ∷ be8 bs 3 ∷ be8 bs 4 ∷ be8 bs 5 ∷ be8 bs 6 ∷ be8 bs 7 ∷ []

  front : bs ≡ firsts ++ (be8 bs 8 ∷ be8 bs 9 ∷ be8 bs 10 ∷ drop 11 bs)
  front =
      let l : 11 ≤ length bs = (let w = s.whole in omega arith) in
      let a = drop_more bs 0 0 (omega arith) in
      let b = drop_more bs 1 0 (omega arith) in
      let c = drop_more bs 2 0 (omega arith) in
      let d = drop_more bs 3 0 (omega arith) in
      let e = drop_more bs 4 0 (omega arith) in
      let f = drop_more bs 5 0 (omega arith) in
      let g = drop_more bs 6 0 (omega arith) in
      let h = drop_more bs 7 0 (omega arith) in
      let i = drop_more bs 8 0 (omega arith) in
      let j = drop_more bs 9 0 (omega arith) in
      let k = drop_more bs 10 0 (omega arith) in
      cc

  reading-bytes : bytes64 (be64 bs 0) ≡ firsts
  reading-bytes =
      let h = long-bytes (get_or bs 0 0) (get_or bs 1 0) (get_or bs 2 0) (get_or bs 3 0) (all 0) (all 1) (all 2) (all 3) in
      let l = long-bytes (get_or bs 4 0) (get_or bs 5 0) (get_or bs 6 0) (get_or bs 7 0) (all 4) (all 5) (all 6) (all 7) in
      let q : be64 bs 0 / 4294967296 ≡ be32 bs 0 = omega (arith, all 4, all 5, all 6, all 7) in
      let u : bytes32 (be64 bs 0 / 4294967296) ≡ bytes32 (be32 bs 0) = ap bytes32 q in
      let d : bytes32 (be64 bs 0) ≡ bytes32 (be32 bs 4) = long-low (be32 bs 0) (be32 bs 4) in
      ap (λ (xs : List ℕ). xs ++ bytes32 (be64 bs 0)) (u ∙ h)
      ∙ ap (λ (xs : List ℕ). get_or bs 0 0 ∷ get_or bs 1 0 ∷ get_or bs 2 0 ∷ get_or bs 3 0 ∷ xs) (d ∙ l)

  frame-length : length (take (be16 bs 9) (drop 11 bs)) ≡ be16 bs 9
  frame-length =
      length-take-le (be16 bs 9) (drop 11 bs) (let w = s.whole in let l = length-drop 11 bs in omega (arith, l))

  frame-bytes : take (be16 bs 9) (drop 11 bs) ++ behind bs ≡ drop 11 bs
  frame-bytes = take-append-drop (be16 bs 9) (drop 11 bs)

  record_bytes_lem : bs ≡ record_bytes (entry_at bs) ++ behind bs
  record_bytes_lem =
      let f = take (be16 bs 9) (drop 11 bs) in
      let w : bytes16 (length f) ≡ get_or bs 9 0 ∷ get_or bs 10 0 ∷ [] =
      ap bytes16 frame-length ∙ word_bytes (get_or bs 9 0) (get_or bs 10 0) (all 9) (all 10) in
      front
      ∙ sym (ap (λ (xs : List ℕ). xs ++ (be8 bs 8 ∷ (bytes16 (length f) ++ (f ++ behind bs)))) reading-bytes
      ∙ (ap (λ (xs : List ℕ). firsts ++ (be8 bs 8 ∷ (xs ++ (f ++ behind bs)))) w
      ∙ ap (λ (xs : List ℕ). firsts ++ (be8 bs 8 ∷ be8 bs 9 ∷ be8 bs 10 ∷ xs)) frame-bytes))

  record_sound : Sound low (entry_at bs)
  record_sound =
      let l = frame-length in
      record {
        rises = s.rises;
        early = s.early;
        line = s.line;
        some = (let a : 1 ≤ be16 bs 9 = s.some in omega (arith, l));
        few = (let a : be16 bs 9 ≤ 1040 = s.few in omega (arith, l));
      }

-- ---- all the records
unread : (n low : ℕ) (bs : List ℕ) → Bytes bs → sound_behind n low bs ≡ true → (bs ≡ flat_map record_bytes (leading n bs)) × Sounds low (leading n bs)
unfolding leading sound_behind
unread zero low bs all h = (nil_from_length bs (eqb-true (length bs) 0 h), tt)
unread (suc n) low bs all h =
    let P : List Entry → Type 0 = λ es. (bs ≡ flat_map record_bytes es) × Sounds low es in
    ⊎_elim
    (λ (some : 0 < length bs).
    let t : (sound_at low bs && sound_behind n (be64 bs 0) (behind bs)) ≡ true =
    (let Q : Bool → Type 0 = λ b. (b || (sound_at low bs && sound_behind n (be64 bs 0) (behind bs))) ≡ true in
    subst Q (ne_eqb (length bs) 0 (λ e. omega arith)) h) in
    let p = and_parts (sound_at low bs) (sound_behind n (be64 bs 0) (behind bs)) t in
    let s = sized low bs p.0 in
    let r = unread n (be64 bs 0) (behind bs) (λ k. rw (get_or-drop, get_or-drop) (all (11 + (be16 bs 9 + k)))) p.1 in
    let e = cond-true (sound_at 0 bs) (entry_at bs ∷ leading n (behind bs)) [] (sound-first low bs p.0) in
    subst P (sym e)
    (record_bytes_lem bs low all s ∙ ap (λ (xs : List ℕ). record_bytes (entry_at bs) ++ xs) r.0, (record_sound bs low all s, r.1)))
    (λ (none : length bs ≤ 0).
    subst P (sym (leading-none (suc n) bs (empty_cut 0 bs none))) (nil_from_length bs (omega arith), tt))
    (cases_lt 0 (length bs))

-- ---- behind the header
pub ok_cond : (b : Bool) (xs es : List Entry) → cond b (Ok xs) (Err Unsound) ≡ Ok es → (b ≡ true) × (xs ≡ es)
ok_cond true xs es h = (refl, cc)
ok_cond false xs es h = absurd (cc)

pub ok_headed : (b : Bool) (xs : List ℕ) (es : List Entry) → entries_of (cond b (Some xs) None) ≡ Ok es → (b ≡ true) × (entries xs ≡ Ok es)
ok_headed true xs es h = (refl, h)
ok_headed false xs es h = absurd (cc)

pub read_was_written : ReadWasWritten
unfolding records_of
read_was_written bs es all h =
    let xs = drop 5 bs in
    let p = ok_headed (bytes_eq (take 5 bs) header) xs es h in
    let q = ok_cond (sound_behind (length xs) 0 xs) (leading (length xs) xs) es p.1 in
    let r = unread (length xs) 0 xs (λ k. rw get_or-drop (all (5 + k))) q.0 in
    let front : take 5 bs ≡ header = (bytes_eq-Decides (take 5 bs) header).0 p.0 in
    let P : List Entry → Type 0 = λ ds. (bs ≡ capture_bytes ds) × Sounds 0 ds in
    subst P q.1
    (sym (take-append-drop 5 bs) ∙ (ap (λ (ys : List ℕ). ys ++ xs) front ∙ ap (λ (ys : List ℕ). header ++ ys) r.0), r.1)
