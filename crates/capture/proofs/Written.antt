-- A sound list of records, written, reads back.
use Rattle.std.proofs.Common.{◌≡◌, ℕ, ◌+◌, ◌*◌, ◌/◌, ◌%◌, ◌≤◌, true, List, [], ◌∷◌, ◌++◌, length, take, Ok, sym, refl, ap, ◌∙◌, arith, length-append}
use Rattle.std.specs.List.{flat_map}
use Rattle.std.proofs.lemmas.List.{take_at, drop_at}
use Rattle.fields.specs.Fields.{be16, be32, be64, bytes32}
use Rattle.fields.proofs.Numbers.{low16, number32}
use Rattle.capture.specs.Records.{Entry, entry_at, behind, sound_at, leading, sound_behind}
use Rattle.capture.specs.Laws.{record_bytes, capture_bytes, Sound, Sounds, WrittenReadsBack}
use Rattle.capture.proofs.Walk.{sound-from, sound-first, leading-none, leading-more, sound_end, sound_more, opened}

abbrev entry : ℕ → ℕ → List ℕ → Entry
entry reading port frame = record { reading = reading; port = port; frame = frame }

-- what stands above them does not show in the low four bytes of a number
pub long-low : (h l : ℕ) → bytes32 (h * 4294967296 + l) ≡ bytes32 l
long-low h l =
    let v = h * 4294967296 + l in
    let w : v / 16777216 % 256 ≡ l / 16777216 % 256 = omega arith in
    let x : v / 65536 % 256 ≡ l / 65536 % 256 = omega arith in
    let y : v / 256 % 256 ≡ l / 256 % 256 = omega arith in
    let z : v % 256 ≡ l % 256 = omega arith in
    cc

long-back : (v : ℕ) (xs : List ℕ) → be32 (bytes32 v ++ xs) 0 ≡ v % 4294967296
long-back v xs =
    let e : v ≡ v / 4294967296 * 4294967296 + v % 4294967296 = omega arith in
    ap (λ (bs : List ℕ). be32 bs 0) (ap bytes32 e ∙ long-low (v / 4294967296) (v % 4294967296)) ∙ number32 (v % 4294967296) (omega arith)

-- a record at the front of the bytes
module _ (low : ℕ) (e : Entry) (s : Sound low e) (xs : List ℕ) where
  pub reading-back : be64 (record_bytes e ++ xs) 0 ≡ e.reading
  reading-back =
      let h = long-back (e.reading / 4294967296) [] in
      let l = long-back e.reading [] in
      let a : e.reading ≤ 4000000000000000 = s.early in
      omega (arith, h, l)

  length_back : be16 (record_bytes e ++ xs) 9 ≡ length e.frame
  length_back = let w = low16 (length e.frame) in let a : length e.frame ≤ 1040 = s.few in omega (arith, w)

  pub entry-back : entry_at (record_bytes e ++ xs) ≡ e
  entry-back =
      let f = take_at e.frame xs (be16 (record_bytes e ++ xs) 9) (sym length_back) in
      ap (λ (n : ℕ). entry n e.port (take (be16 (record_bytes e ++ xs) 9) (e.frame ++ xs))) reading-back
      ∙ ap (λ (bs : List ℕ). entry e.reading e.port bs) f

  pub behind-back : behind (record_bytes e ++ xs) ≡ xs
  behind-back = drop_at e.frame xs (be16 (record_bytes e ++ xs) 9) (sym length_back)

  pub sound_back : sound_at low (record_bytes e ++ xs) ≡ true
  sound_back =
      let r = reading-back in
      let n = length_back in
      let l = length-append e.frame xs in
      sound-from low (record_bytes e ++ xs)
      (record {
        rises = (let a : low ≤ e.reading = s.rises in omega (arith, r));
        early = (let a : e.reading ≤ 4000000000000000 = s.early in omega (arith, r));
        line = s.line;
        some = (let a : 1 ≤ length e.frame = s.some in omega (arith, n));
        few = (let a : length e.frame ≤ 1040 = s.few in omega (arith, n));
        whole = omega (arith, n, l);
      })

reads : (n low : ℕ) (es : List Entry) → Sounds low es → length (flat_map record_bytes es) ≤ n → (sound_behind n low (flat_map record_bytes es) ≡ true) × (leading n (flat_map record_bytes es) ≡ es)
reads n low [] s h = (sound_end n low [] refl, leading-none n [] refl)
reads n low (e ∷ es) s h =
    let xs = flat_map record_bytes es in
    let bs = record_bytes e ++ xs in
    let at = sound_back low e s.0 xs in
    let b = behind-back low e s.0 xs in
    let r = reads (length xs) e.reading es s.1 (omega arith) in (
      sound_more n low bs h (omega arith) at
          ∙ (ap (λ (ys : List ℕ). sound_behind (length ys) (be64 bs 0) ys) b
          ∙ (ap (λ (v : ℕ). sound_behind (length xs) v xs) (reading-back low e s.0 xs) ∙ r.0)),
      leading-more n bs h (sound-first low bs at)
          ∙ (ap (λ (ys : List ℕ). entry_at bs ∷ leading (length ys) ys) b
          ∙ (ap (λ (d : Entry). d ∷ leading (length xs) xs) (entry-back low e s.0 xs) ∙ ap (λ (ds : List Entry). e ∷ ds) r.1)),
    )

pub written-reads-back : WrittenReadsBack
written-reads-back es s =
    let xs = flat_map record_bytes es in
    let r = reads (length xs) 0 es s (omega arith) in sym (opened (capture_bytes es) xs refl r.0) ∙ ap Ok r.1
