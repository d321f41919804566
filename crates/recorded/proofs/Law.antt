-- A tick adds all records that it is the first to come to; of a capture that is not sound, nothing waits.
use Rattle.std.proofs.Common.{◌≡◌, ℕ, zero, suc, ◌+◌, ◌<◌, ◌≤◌, true, false, cond, not, ◌&&◌, ◌||◌, List, [], ◌∷◌, ◌++◌, map, take, drop, Ok, filter, Result, sym, refl, ap, ◌∙◌, ⊎_elim, arith}
use Rattle.std.proofs.lemmas.List.{map-append}
use Rattle.std.proofs.lemmas.Bool.{cases_Bool, leb-false, lt-leb}
use Rattle.common.specs.declared.fault.Fault.{Fault}
use Rattle.capture.specs.Records.{Entry}
use Rattle.feed.specs.Feeds.{Op, Tick, Next}
use Rattle.recorded.specs.Queues.{Queue, come, due, step, waiting_of, playing, begun}
use Rattle.recorded.specs.Laws.{passed, newly, AddsAllDue, SilentIfUnsound}
use Rattle.recorded.proofs.Rising.{Rises, records_rise}

abbrev early : ℕ → List Entry → List Entry
early r es = filter (come r) es

abbrev late : ℕ → List Entry → List Entry
late r es = filter (λ e. not (come r e)) es

-- ---- where readings never fall, those that have come stand first
rises-from : (a b : ℕ) (es : List Entry) → a ≤ b → Rises b es → Rises a es
rises-from a b [] h s = tt
rises-from a b (e ∷ es) h s = (let l = s.0 in omega (arith, l), s.1)

none-early : (r low : ℕ) (es : List Entry) → r < low → Rises low es → ([] ≡ early r es) × (es ≡ late r es)
none-early r low [] h s = (refl, refl)
none-early r low (e ∷ es) h s =
    let b = lt-leb e.reading r (let l = s.0 in omega (arith, l)) in
    let n = none-early r e.reading es (let l = s.0 in omega (arith, l)) s.1 in
    (rw b n.0, rw b (ap (λ (xs : List Entry). e ∷ xs) n.1))

due-early : (r low : ℕ) (es : List Entry) → Rises low es → (take (due r es) es ≡ early r es) × (drop (due r es) es ≡ late r es)
due-early r low [] s = (refl, refl)
due-early r low (e ∷ es) s =
    ⊎_elim
    (λ (t : come r e ≡ true).
    let i = due-early r e.reading es s.1 in
    let o : 1 + due r es ≡ suc (due r es) = omega arith in
    (rw (t, o) (ap (λ (xs : List Entry). e ∷ xs) i.0), rw (t, o) i.1))
    (λ (f : come r e ≡ false).
    let n = none-early r e.reading es (leb-false e.reading r f) s.1 in
    (rw f n.0, rw f (ap (λ (xs : List Entry). e ∷ xs) n.1)))
    (cases_Bool (come r e))

rises-drop : (n low : ℕ) (es : List Entry) → Rises low es → Rises low (drop n es)
rises-drop zero low es s = s
rises-drop (suc n) low [] s = tt
rises-drop (suc n) low (e ∷ es) s = rises-drop n low es (rises-from low e.reading es s.0 s.1)

-- ---- what a tick is the first to come to is not what a tick before it came to
newly-late : (t : ℕ) (ops : List Op) (r : ℕ) (es : List Entry) → newly ops r (late t es) ≡ newly (Tick t ∷ ops) r es
newly-late t ops r [] = refl
newly-late t ops r (e ∷ es) =
    let more = newly (Tick t ∷ ops) r es in
    elim (come t e) as (λ v. newly ops r (cond (not v) (e ∷ late t es) (late t es)) ≡ cond (not (v || passed ops e) && come r e) (e ∷ more) more) [
      | true ↦ newly-late t ops r es
      | false ↦ ap (λ (xs : List Entry). cond (not (passed ops e) && come r e) (e ∷ xs) xs) (newly-late t ops r es)
    ]

adds : (q : Queue) (low : ℕ) → Rises low q.coming → (ops : List Op) (r : ℕ) → playing q (ops ++ (Tick r ∷ [])) ≡ playing q ops ++ map waiting_of (newly ops r q.coming)
adds q low s [] r =
    map-append waiting_of q.waiting (take (due r q.coming) q.coming)
    ∙ ap (λ (xs : List Entry). map waiting_of q.waiting ++ map waiting_of xs) (due-early r low q.coming s).0
adds q low s (Tick t ∷ ops) r =
    let n = due t q.coming in
    adds (step q (Tick t)) low (rises-drop n low q.coming s) ops r
    ∙ ap (λ (xs : List Entry). playing (step q (Tick t)) ops ++ map waiting_of xs)
    (ap (newly ops r) (due-early t low q.coming s).1 ∙ newly-late t ops r q.coming)
adds q low s (Next ∷ ops) r = adds (step q Next) low s ops r

adds-all-due : AddsAllDue
adds-all-due bs es h ops r =
    ap (λ (o : Result (List Entry) Fault). playing (begun o) (ops ++ (Tick r ∷ []))) h
    ∙ (adds (begun (Ok es)) 0 (records_rise bs es h) ops r
    ∙ sym (ap (λ (o : Result (List Entry) Fault). playing (begun o) ops ++ map waiting_of (newly ops r es)) h))

nothing : (ops : List Op) → playing (record { waiting = []; coming = [] }) ops ≡ []
nothing [] = refl
nothing (Tick r ∷ ops) = nothing ops
nothing (Next ∷ ops) = nothing ops

silent_if_unsound : SilentIfUnsound
silent_if_unsound bs f h ops = ap (λ (o : Result (List Entry) Fault). playing (begun o) ops) h ∙ nothing ops

pub laws : AddsAllDue × SilentIfUnsound
laws = (adds-all-due, silent_if_unsound)
