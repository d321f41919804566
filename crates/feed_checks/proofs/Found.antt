-- What a next's answer and its buffer tell of the frames that waited.
use Rattle.std.proofs.Common.{◌≡◌, ◌==◌, ℕ, true, nat_eq, List, [], ◌∷◌, length, take, drop, Ok, Err, Result, IfOk, IfErr, arith, refl, sym, ap, ◌∙◌}
use Rattle.std.proofs.Math.Seq.{take-append_seam, drop-append_seam}
use Rattle.std.proofs.lemmas.Bool.{and_parts}
use Rattle.std.proofs.lemmas.List.{take-append-drop}
use Rattle.std.proofs.lemmas.List.Folds.{list_all-append}
use Rattle.common.specs.Faults.{number_in}
use Rattle.feed.specs.declared.feed.Taken.{Taken}
use Rattle.feed.specs.Feeds.{Waiting}
use Rattle.feed.specs.Calls.{first_taken, first_over}
use Rattle.fields.specs.Fields.{over}
use Rattle.feed_checks.specs.Checks.{IsNext, is_filled}

-- what holds, holds also if an answer is `Ok`
pub if_ok : {T E : Type 0} (r : Result T E) {A : Type 0} → A → IfOk r (λ _. A)
if_ok (Ok x) a = a
if_ok (Err e) a = tt

-- what holds, holds also if an answer is `Err`
pub if_err : {T E : Type 0} (r : Result T E) {A : Type 0} → A → IfErr r (λ _. A)
if_err (Ok x) a = tt
if_err (Err e) a = a

pub dry : (ws : List Waiting) → nat_eq (number_in (first_taken ws)) 30 ≡ true → ws ≡ []
dry [] h = refl
dry (w ∷ ws) h = absurd (let z : ◌≡◌ {A = ℕ} 0 1 = cc in let n : ⊥ = omega arith in n)

pub first_is : (ws : List Waiting) (t : Taken) (before after : List ℕ) → first_taken ws ≡ Ok t → after ≡ first_over ws before → IsNext ws t.port.0 (take t.len after)
first_is [] t before after e h = absurd (let z : ◌≡◌ {A = ℕ} 0 1 = cc in let n : ⊥ = omega arith in n)
first_is (w ∷ ws) t before after e h =
    let same : record { port = record { 0 = w.port }; len = length w.bytes } ≡ t = cc in
    let port : w.port ≡ t.port.0 = ap (λ (x : Taken). x.port.0) same in
    let len : length w.bytes ≡ t.len = ap (λ (x : Taken). x.len) same in
    let bytes : w.bytes ≡ take t.len after = sym (rw (h, ← len) (take-append_seam w.bytes _)) in
    (ws, ap (λ (p : ℕ). record { port = p; bytes = w.bytes } ∷ ws) port ∙ ap (λ (b : List ℕ). record { port = t.port.0; bytes = b } ∷ ws) bytes)

-- if this frame is next, it is at the front of what a next leaves
pub front_is : (ws : List Waiting) (port : ℕ) (frame before after : List ℕ) → IsNext ws port frame → after ≡ first_over ws before → take (length frame) after ≡ frame
front_is ws port frame before after n h =
    let left : after ≡ over frame before = h ∙ ap (λ (xs : List Waiting). first_over xs before) n.1 in
    rw left (take-append_seam frame _)

-- and behind it the buffer is as it was
pub rest_is : (ws : List Waiting) (port : ℕ) (frame before after : List ℕ) → IsNext ws port frame → after ≡ first_over ws before → drop (length frame) after ≡ drop (length frame) before
rest_is ws port frame before after n h =
    let left : after ≡ over frame before = h ∙ ap (λ (xs : List Waiting). first_over xs before) n.1 in
    rw left (drop-append_seam frame _)

-- what is filled is filled to its end
pub filled_on : (n : ℕ) (xs : List ℕ) → is_filled xs ≡ true → is_filled (drop n xs) ≡ true
filled_on n xs h =
    (and_parts _ _ (sym (list_all-append (λ (b : ℕ). b == 85) (take n xs) (drop n xs)) ∙ ap is_filled (take-append-drop n xs) ∙ h)).1
