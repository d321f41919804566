-- The laws of stamps.
use Rattle.std.proofs.Common.{◌≡◌, ℕ, suc, ◌+◌, ◌*◌, ◌/◌, ◌%◌, ◌<◌, ◌≤◌, sym, ap, ◌∙◌, div-lt_iff_lt-mul, le-div_iff_mul-le, div-add-mod', arith}
use native.Mathlib.Nat.{mul-add-div_right}
use Rattle.std.proofs.lemmas.Bool.{leb-true}
use Rattle.slots.specs.Slots.{stamp_of, first_slot}
use Rattle.slots.specs.Laws.{OwnSecond, StampsRise, FirstSlot, LastSlot, WindowSpans}

-- whole seconds and the rest apart
pub own-second : OwnSecond
own-second F n pos =
    let e : n * 1000000 ≡ n / F * 1000000 * F + n % F * 1000000 =
    let d = ap (λ x. x * 1000000) (sym (div-add-mod' n F)) in omega arith in
    ap (λ x. x / F) e ∙ mul-add-div_right pos (n / F * 1000000) (n % F * 1000000)

-- a stamp is before a reading, or not, as the products are
module _ (F n r : ℕ) (pos : 0 < F) where
  before : stamp_of F n < r → n * 1000000 < r * F
  before h = (div-lt_iff_lt-mul pos).0 h

  is_before : n * 1000000 < r * F → stamp_of F n < r
  is_before h = (div-lt_iff_lt-mul pos).1 h

  reaches : r ≤ stamp_of F n → r * F ≤ n * 1000000
  reaches h = (le-div_iff_mul-le pos).0 h

  does_reach : r * F ≤ n * 1000000 → r ≤ stamp_of F n
  does_reach h = (le-div_iff_mul-le pos).1 h

pub stamps_rise : StampsRise
stamps_rise F m n pos small h =
    let a = reaches F m (stamp_of F m) pos (omega arith) in does_reach F n (suc (stamp_of F m)) pos (omega arith)

pub first-slot : FirstSlot
first-slot F r pos = (
  does_reach F (first_slot F r) r pos (omega arith),
  λ n h. let a = reaches F n r pos h in omega arith,
)

pub last-slot : LastSlot
last-slot F r n pos = (
  λ h. let a = before F n (r + 1) pos (omega arith) in omega arith,
  λ h. let a = is_before F n (r + 1) pos (omega arith) in omega arith,
)

pub window_spans : WindowSpans
window_spans F W m n pos fits h =
    let w = leb-true ((100000 + W) * F) 32000000 fits in
    let a = before F n (stamp_of F m + W + 100000) pos h in
    let b = reaches F m (stamp_of F m) pos (omega arith) in
    omega arith
