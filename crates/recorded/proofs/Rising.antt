-- The records of a sound capture: their readings never fall.
use Rattle.std.proofs.Common.{◌≡◌, ℕ, zero, suc, ◌≤◌, Bool, true, ◌&&◌, ◌||◌, List, [], ◌∷◌, length, take, drop, Ok, subst, arith}
use Rattle.std.specs.Str.{bytes_eq}
use Rattle.std.proofs.lemmas.Bool.{cond_both, and_parts, ne_eqb}
use Rattle.capture.specs.Records.{Entry, entry_at, behind, sound_at, leading, sound_behind, header, records_of}
use Rattle.capture.proofs.Walk.{sized}
use Rattle.capture.proofs.Unread.{ok_cond, ok_headed}

-- no reading is below the one before it, nor the first below low
abbrev pub Rises : ℕ → List Entry → Type 0
Rises low [] = Unit {0}
Rises low (e ∷ es) = (low ≤ e.reading) × Rises e.reading es

leading-rises : (n low : ℕ) (bs : List ℕ) → sound_behind n low bs ≡ true → Rises low (leading n bs)
unfolding leading sound_behind
leading-rises zero low bs h = tt
leading-rises (suc n) low bs h =
    cond_both (sound_at 0 bs) (entry_at bs ∷ leading n (behind bs)) [] (Rises low)
    (λ some.
    let whole = (sized 0 bs some).whole in
    let last = sound_at low bs && sound_behind n (entry_at bs).reading (behind bs) in
    let Q : Bool → Type 0 = λ b. (b || last) ≡ true in
    let p = and_parts (sound_at low bs) (sound_behind n (entry_at bs).reading (behind bs)) (subst Q (ne_eqb (length bs) 0 (λ e. omega arith)) h) in
    ((sized low bs p.0).rises, leading-rises n (entry_at bs).reading (behind bs) p.1))
    (λ none. tt)

module _ (bs : List ℕ) (es : List Entry) (h : records_of bs ≡ Ok es) where
  abbrev body : List ℕ
  body = drop 5 bs

  behind-header : (sound_behind (length body) 0 body ≡ true) × (leading (length body) body ≡ es)
  unfolding records_of
  behind-header =
      ok_cond (sound_behind (length body) 0 body) (leading (length body) body) es
      (ok_headed (bytes_eq (take 5 bs) header) body es h).1

  pub records_rise : Rises 0 es
  records_rise = subst (Rises 0) behind-header.1 (leading-rises (length body) 0 body behind-header.0)
