-- The records that a tick moves.
use Rattle.std.proofs.Common.{◌≡◌, ℕ, suc, ◌+◌, ◌<◌, ◌≤◌, true, false, List, [], ◌∷◌, ◌++◌, take, drop, Some, None, Option, sym, refl, ap, ◌∙◌, ⊎_elim, arith, take-add}
use Rattle.std.proofs.lemmas.List.{drop-drop}
use Rattle.std.specs.Option.{option_cmp}
use Rattle.std.specs.Ordering.{ord_max, is_lt, nat_cmp}
use Rattle.std.proofs.lemmas.Map.Keys.{ge_from_not_lt}
use Rattle.std.proofs.lemmas.Bool.Decides.{nat_tests}
use Rattle.std.proofs.lemmas.Bool.{cases_Bool, cases_lt, le-leb, lt-leb}
use Rattle.capture.specs.Records.{Entry}
use Rattle.feed.specs.Feeds.{Tick}
use Rattle.recorded.specs.Queues.{due, step}
use Rattle.recorded.specs.Recordings.{due_by, parted}

-- behind what has come by a reading, a higher one comes to what it would have come to alone
due-higher : (t r : ℕ) (es : List Entry) → t ≤ r → due t es + due r (drop (due t es) es) ≡ due r es
due-higher t r [] h = refl
due-higher t r (e ∷ es) h =
    ⊎_elim
    (λ (late : t < e.reading). rw (lt-leb e.reading t late) (omega arith))
    (λ (early : e.reading ≤ t).
    let o : 1 + due t es ≡ suc (due t es) = omega arith in
    let i = due-higher t r es h in
    rw (le-leb e.reading t early, le-leb e.reading r (omega arith), o) (omega (arith, i)))
    (cases_lt t e.reading)

-- and a lower one comes to nothing
due-lower : (t r : ℕ) (es : List Entry) → r ≤ t → due r (drop (due t es) es) ≡ 0
due-lower t r [] h = refl
due-lower t r (e ∷ es) h =
    ⊎_elim
    (λ (late : t < e.reading). rw (lt-leb e.reading t late) (rw (lt-leb e.reading r (omega arith)) refl))
    (λ (early : e.reading ≤ t).
    let o : 1 + due t es ≡ suc (due t es) = omega arith in
    rw (le-leb e.reading t early, o) (due-lower t r es h))
    (cases_lt t e.reading)

-- the higher of the readings ticked so far and one more
abbrev higher : Option ℕ → ℕ → Option ℕ
higher latest r = ord_max (option_cmp nat_cmp) latest (Some r)

lt_from_is_lt : (r t : ℕ) → is_lt (nat_cmp r t) ≡ true → r ≤ t
lt_from_is_lt r t h = grind (arith, nat_tests)

due-by-higher : (latest : Option ℕ) (r : ℕ) (es : List Entry) → due_by (higher latest r) es ≡ due_by latest es + due r (drop (due_by latest es) es)
due-by-higher None r es = omega arith
due-by-higher (Some t) r es =
    ⊎_elim
    (λ (lower : is_lt (nat_cmp r t) ≡ true). rw lower (let i = due-lower t r es (lt_from_is_lt r t lower) in omega (arith, i)))
    (λ (no : is_lt (nat_cmp r t) ≡ false). rw no (sym (due-higher t r es (ge_from_not_lt r t no))))
    (cases_Bool (is_lt (nat_cmp r t)))

pub ticked : (latest : Option ℕ) (r : ℕ) (es : List Entry) → parted (due_by (higher latest r) es) es ≡ step (parted (due_by latest es) es) (Tick r)
ticked latest r es =
    let n = due_by latest es in
    let m = due r (drop n es) in
    ap (λ k. parted k es) (due-by-higher latest r es)
    ∙ (ap (λ ws. record { waiting = ws; coming = drop (n + m) es }) (take-add n m es)
    ∙ ap (λ cs. record { waiting = take n es ++ take m (drop n es); coming = cs }) (sym (drop-drop m n es)))
