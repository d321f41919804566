-- The way over the records, a record at a time: more than enough turns change nothing.
use Rattle.std.proofs.Common.{◌≡◌, ℕ, zero, suc, ◌<◌, ◌≤◌, Bool, true, false, cond, ◌&&◌, ◌||◌, eqb, List, [], ◌∷◌, length, drop, Some, None, Ok, Err, sym, refl, ap, ◌∙◌, arith, length-drop}
use Rattle.std.proofs.lemmas.Bool.{cond-true, cond-false, or_left, eq-eqb, ne_eqb}
use Rattle.std.proofs.lemmas.Bool.Decides.{nat_tests}
use Rattle.std.proofs.lemmas.Option.{cond_some}
use Rattle.fields.specs.Fields.{be8, be16, be64}
use Rattle.common.specs.declared.fault.Fault.TheVariants.{Unsound}
use Rattle.capture.specs.Records.{Entry, entry_at, size_at, behind, sound_at, first_record, leading, sound_behind, headless, entries_of, records_of}

-- what a sound record says of the bytes that it begins
pub record Sized (low : ℕ) (bs : List ℕ) : Type 0 where
  pub rises : low ≤ be64 bs 0
  pub early : be64 bs 0 ≤ 4000000000000000
  pub line : be8 bs 8 ≤ 15
  pub some : 1 ≤ be16 bs 9
  pub few : be16 bs 9 ≤ 1040
  pub whole : size_at bs ≤ length bs

pub sized : (low : ℕ) (bs : List ℕ) → sound_at low bs ≡ true → Sized low bs
sized low bs h =
    record {
      rises = grind (arith, nat_tests);
      early = grind (arith, nat_tests);
      line = grind (arith, nat_tests);
      some = grind (arith, nat_tests);
      few = grind (arith, nat_tests);
      whole = grind (arith, nat_tests);
    }

pub sound-from : (low : ℕ) (bs : List ℕ) → Sized low bs → sound_at low bs ≡ true
sound-from low bs s = grind (arith, nat_tests)

pub sound-first : (low : ℕ) (bs : List ℕ) → sound_at low bs ≡ true → sound_at 0 bs ≡ true
sound-first low bs h =
    let s = sized low bs h in
    sound-from 0 bs (record { rises = omega arith; early = s.early; line = s.line; some = s.some; few = s.few; whole = s.whole })

-- a record has a byte at least
pub shorter : (low : ℕ) (bs : List ℕ) → sound_at low bs ≡ true → length (behind bs) < length bs
shorter low bs h =
    let s = sized low bs h in let l = length-drop (be16 bs 9) (drop 11 bs) in let m = length-drop 11 bs in omega (arith, l, m)

pub empty_cut : (low : ℕ) (bs : List ℕ) → length bs ≤ 0 → sound_at low bs ≡ false
empty_cut low bs h = grind (arith, nat_tests)

same_then : {A : Type 0} (b : Bool) (x y z : A) → (b ≡ true → x ≡ y) → cond b x z ≡ cond b y z
same_then true x y z h = h refl
same_then false x y z h = refl

same_and : (a b x y : Bool) → (b ≡ true → x ≡ y) → (a || (b && x)) ≡ (a || (b && y))
same_and a true x y h = ap (λ t. a || t) (h refl)
same_and a false x y h = refl

-- ---- the records to come
pub leading-none : (n : ℕ) (bs : List ℕ) → sound_at 0 bs ≡ false → leading n bs ≡ []
unfolding leading
leading-none zero bs h = refl
leading-none (suc n) bs h = cond-false (sound_at 0 bs) (entry_at bs ∷ leading n (behind bs)) [] h

leading_enough : (n m : ℕ) (bs : List ℕ) → length bs ≤ n → length bs ≤ m → leading n bs ≡ leading m bs
unfolding leading
leading_enough zero m bs h k = sym (leading-none m bs (empty_cut 0 bs h))
leading_enough (suc n) zero bs h k = leading-none (suc n) bs (empty_cut 0 bs k)
leading_enough (suc n) (suc m) bs h k =
    same_then (sound_at 0 bs) (entry_at bs ∷ leading n (behind bs)) (entry_at bs ∷ leading m (behind bs)) []
    (λ s. let l = shorter 0 bs s in ap (λ es. entry_at bs ∷ es) (leading_enough n m (behind bs) (omega (arith, l)) (omega (arith, l))))

pub leading-more : (n : ℕ) (bs : List ℕ) → length bs ≤ n → sound_at 0 bs ≡ true → leading n bs ≡ entry_at bs ∷ leading (length (behind bs)) (behind bs)
unfolding leading
leading-more zero bs h s = absurd (let l = shorter 0 bs s in omega (arith, l))
leading-more (suc n) bs h s =
    let l = shorter 0 bs s in
    cond-true (sound_at 0 bs) (entry_at bs ∷ leading n (behind bs)) [] s
    ∙ ap (λ es. entry_at bs ∷ es) (leading_enough n (length (behind bs)) (behind bs) (omega (arith, l)) (omega arith))

-- ---- whether all are sound
pub sound_end : (n low : ℕ) (bs : List ℕ) → length bs ≡ 0 → sound_behind n low bs ≡ true
unfolding sound_behind
sound_end zero low bs h = eq-eqb (length bs) 0 h
sound_end (suc n) low bs h = or_left (eqb (length bs) 0) (sound_at low bs && sound_behind n (be64 bs 0) (behind bs)) (eq-eqb (length bs) 0 h)

sound_enough : (n m low : ℕ) (bs : List ℕ) → length bs ≤ n → length bs ≤ m → sound_behind n low bs ≡ sound_behind m low bs
unfolding sound_behind
sound_enough zero m low bs h k = sound_end zero low bs (omega arith) ∙ sym (sound_end m low bs (omega arith))
sound_enough (suc n) zero low bs h k = sound_end (suc n) low bs (omega arith) ∙ sym (sound_end zero low bs (omega arith))
sound_enough (suc n) (suc m) low bs h k =
    same_and (eqb (length bs) 0) (sound_at low bs) (sound_behind n (be64 bs 0) (behind bs)) (sound_behind m (be64 bs 0) (behind bs))
    (λ s. let l = shorter low bs s in sound_enough n m (be64 bs 0) (behind bs) (omega (arith, l)) (omega (arith, l)))

-- one record more, or a cut
sound-step : (n low : ℕ) (bs : List ℕ) → length bs ≤ n → 0 < length bs → sound_behind n low bs ≡ (sound_at low bs && sound_behind (length (behind bs)) (be64 bs 0) (behind bs))
unfolding sound_behind
sound-step zero low bs h some = absurd (omega arith)
sound-step (suc n) low bs h some =
    ap (λ t. t || (sound_at low bs && sound_behind n (be64 bs 0) (behind bs))) (ne_eqb (length bs) 0 (λ e. omega arith))
    ∙ same_and false (sound_at low bs) (sound_behind n (be64 bs 0) (behind bs)) (sound_behind (length (behind bs)) (be64 bs 0) (behind bs))
    (λ s. let l = shorter low bs s in sound_enough n (length (behind bs)) (be64 bs 0) (behind bs) (omega (arith, l)) (omega arith))

module _ (n low : ℕ) (bs : List ℕ) (h : length bs ≤ n) (some : 0 < length bs) where
  pub sound_more : sound_at low bs ≡ true → sound_behind n low bs ≡ sound_behind (length (behind bs)) (be64 bs 0) (behind bs)
  sound_more s = sound-step n low bs h some ∙ ap (λ t. t && sound_behind (length (behind bs)) (be64 bs 0) (behind bs)) s

  pub sound-cut : sound_at low bs ≡ false → sound_behind n low bs ≡ false
  sound-cut s = sound-step n low bs h some ∙ ap (λ t. t && sound_behind (length (behind bs)) (be64 bs 0) (behind bs)) s

-- ---- what a look at the first record tells
none-cond : {A : Type 0} (b : Bool) (y : A) → None ≡ cond b (Some y) None → b ≡ false
none-cond true y h = absurd (cc)
none-cond false y h = refl

pub first_some : (low : ℕ) (bs : List ℕ) (e : Entry) (rest : List ℕ) → Some (e, rest) ≡ first_record low bs → (sound_at low bs ≡ true) × (e ≡ entry_at bs) × (rest ≡ behind bs)
first_some low bs e rest h =
    let p = cond_some (sound_at low bs) (entry_at bs, behind bs) (e, rest) (sym h) in
    (p.0, ap (λ (q : Entry × List ℕ). q.0) (sym p.1), ap (λ (q : Entry × List ℕ). q.1) (sym p.1))

pub first-none : (low : ℕ) (bs : List ℕ) → None ≡ first_record low bs → sound_at low bs ≡ false
first-none low bs h = none-cond (sound_at low bs) (entry_at bs, behind bs) h

pub come-more : (bs : List ℕ) (e : Entry) (rest : List ℕ) → Some (e, rest) ≡ first_record 0 bs → leading (length bs) bs ≡ e ∷ leading (length rest) rest
come-more bs e rest h = let p = first_some 0 bs e rest h in let m = leading-more (length bs) bs (omega arith) p.0 in cc

pub come-none : (bs : List ℕ) → None ≡ first_record 0 bs → leading (length bs) bs ≡ []
come-none bs h = leading-none (length bs) bs (first-none 0 bs h)

-- the turn and the end of a way over all records, from the test that bytes are left
some_left : (bs : List ℕ) → false ≡ eqb (length bs) 0 → 0 < length bs
some_left bs h = grind (arith, nat_tests)

module _ (low : ℕ) (bs : List ℕ) (left : false ≡ eqb (length bs) 0) where
  pub all_more : (e : Entry) (rest : List ℕ) → Some (e, rest) ≡ first_record low bs → sound_behind (length bs) low bs ≡ sound_behind (length rest) e.reading rest
  all_more e rest h =
      let p = first_some low bs e rest h in let m = sound_more (length bs) low bs (omega arith) (some_left bs left) p.0 in cc

  pub all-cut : None ≡ first_record low bs → sound_behind (length bs) low bs ≡ false
  all-cut h = sound-cut (length bs) low bs (omega arith) (some_left bs left) (first-none low bs h)

pub all_end : (low : ℕ) (bs : List ℕ) → true ≡ eqb (length bs) 0 → sound_behind (length bs) low bs ≡ true
all_end low bs h = sound_end (length bs) low bs (grind (arith, nat_tests))

-- ---- the records behind a header
pub opened : (bs records : List ℕ) → Some records ≡ headless bs → sound_behind (length records) 0 records ≡ true → Ok (leading (length records) records) ≡ records_of bs
unfolding records_of
opened bs records h s =
    sym (cond-true (sound_behind (length records) 0 records) (Ok (leading (length records) records)) (Err Unsound) s) ∙ ap entries_of h

pub refused : (bs records : List ℕ) → Some records ≡ headless bs → sound_behind (length records) 0 records ≡ false → Err Unsound ≡ records_of bs
unfolding records_of
refused bs records h s =
    sym (cond-false (sound_behind (length records) 0 records) (Ok (leading (length records) records)) (Err Unsound) s) ∙ ap entries_of h

pub all-shorter : (low : ℕ) (bs : List ℕ) (e : Entry) (rest : List ℕ) → Some (e, rest) ≡ first_record low bs → length rest < length bs
all-shorter low bs e rest h =
    let p = first_some low bs e rest h in let l = shorter low bs p.0 in let m = ap length p.2 in omega (arith, l, m)
