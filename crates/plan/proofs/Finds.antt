-- A search through ports: none has the station, or the first that has it.
use Rattle.std.proofs.Common.{◌≡◌, ℕ, zero, suc, ◌+◌, ◌<◌, List, [], ◌∷◌, map, length, get_or, Some, None, refl, arith}
use Rattle.std.proofs.lemmas.Grind.{common_steps}
use Rattle.config.specs.Configs.{listed}
use Rattle.plan.specs.declared.record.Record.{Record}
use Rattle.plan.specs.Tables.{port_of}
use Rattle.plan.specs.Find.{place_in, find_in}

pub find_in-none : (rs : List Record) (id p : ℕ) → ((k : ℕ) (d : Record) → k < length rs → place_in (listed (get_or rs k d).stations) id 0 ≡ None) → find_in (map port_of rs) id p ≡ None
unfolding find_in
find_in-none [] id p h = refl
find_in-none (r ∷ rs) id p h =
    let here = h 0 r (omega arith) in
    let rest = find_in-none rs id (p + 1) (λ k d b. h (suc k) d (omega arith)) in
    grind (arith, common_steps)

pub find_in-at : (rs : List Record) (id p i s : ℕ) → i < length rs → ((d : Record) → place_in (listed (get_or rs i d).stations) id 0 ≡ Some s) → ((k : ℕ) (d : Record) → k < i → place_in (listed (get_or rs k d).stations) id 0 ≡ None) → find_in (map port_of rs) id p ≡ Some (p + i, s)
unfolding find_in
find_in-at [] id p i s b e h = absurd (omega arith)
find_in-at (r ∷ rs) id p zero s b e h = let here = e r in grind (arith, common_steps)
find_in-at (r ∷ rs) id p (suc i) s b e h =
    let here = h 0 r (omega arith) in
    let rest = find_in-at rs id (p + 1) i s (omega arith) e (λ k d b. h (suc k) d (omega arith)) in
    let n : p + suc i ≡ p + 1 + i = omega arith in
    grind (arith, common_steps)

-- what holds by any record holds, as there is one
pub by_some : (P : Type 0) (rs : List Record) (i : ℕ) → i < length rs → (Record → P) → P
by_some P [] i b e = absurd (omega arith)
by_some P (r ∷ rs) i b e = e r
