-- Pulls, one after the other, until one is refused.
use Rattle.std.proofs.Common.{◌≡◌, ℕ, zero, suc, ◌<◌, Bool, true, false, cond, List, [], ◌∷◌, length, Some, None, Ok, Err, Option, Result, is_ok, sym, refl, ap, ◌∙◌, arith}
use Rattle.common.specs.declared.fault.Fault.{Fault}
use Rattle.common.specs.declared.fault.Fault.TheVariants as fault
use Rattle.feed.specs.Feeds.{Waiting, Next, Behaviour, after, rest, Lawful}
use Rattle.feed.specs.Calls.{short}
use Rattle.engine.specs.Calls as on
use Rattle.concentrator.specs.declared.calls.Pulled.{Pulled}
use Rattle.concentrator.specs.Wholes.{Whole}
use Rattle.concentrator.specs.Calls as call
use Rattle.stacked.specs.Stacks.{pulled, pulls, drained}

-- a pull that changes nothing, however often it is made
pub pulls_same : (n : ℕ) (w : Whole) → pulled w ≡ w → pulls n w ≡ w
pulls_same zero w e = refl
pulls_same (suc n) w e = ap (pulls n) e ∙ pulls_same n w e

module _ (w : Whole) (b : List ℕ) (room : short b ≡ false) where
  -- with room, the call leaves what the machine's pull does
  pub as_pulled : call.pulled w b ≡ pulled w
  as_pulled = rw room

  -- ---- a pull that is refused is the last
  pub record Stops : Type 0 where
    pub last : drained w ≡ w
    pub same : pulled w ≡ w

  stops-by : (o : Option Fault) (x : Bool) (fs : List Waiting) (e : Fault) → w.shut ≡ o → on.exhausted w.box ≡ x → w.feed [] ≡ fs → Err e ≡ on.unless_shut o (cond (short b) (Err fault.Buffer) (cond x (Err fault.Exhausted) (call.pulled_by w fs))) → Stops
  stops-by (Some f) x fs e p q r s =
      let same : pulled w ≡ w = rw p in record { last = pulls_same (length (w.feed [])) w same; same = same }
  stops-by None true fs e p q r s =
      let same : pulled w ≡ w = rw (p, q) in record { last = pulls_same (length (w.feed [])) w same; same = same }
  stops-by None false [] e p q r s =
      record { last = ap (λ (fs : List Waiting). pulls (length fs) w) r; same = rw (p, q, r) }
  stops-by None false (f ∷ fs) e p q r s = let t = rw room at s in absurd (cc)

  pub stops : (a : Result Pulled Fault) → is_ok a ≡ false → a ≡ call.pull_said w b → Stops
  stops (Ok y) t s = absurd (cc)
  stops (Err e) t s = stops-by w.shut (on.exhausted w.box) (w.feed []) e refl refl refl s

  -- ---- one that is not takes the first frame that waits
  pub record Goes : Type 0 where
    pub left : drained (pulled w) ≡ drained w
    pub fewer : length ((pulled w).feed []) < length (w.feed [])

  module _ (lawful : Lawful w.feed) where
    goes-by : (o : Option Fault) (x : Bool) (fs : List Waiting) (y : Pulled) → w.shut ≡ o → on.exhausted w.box ≡ x → w.feed [] ≡ fs → Ok y ≡ on.unless_shut o (cond (short b) (Err fault.Buffer) (cond x (Err fault.Exhausted) (call.pulled_by w fs))) → Goes
    goes-by (Some f) x fs y p q r s = absurd (cc)
    goes-by None true fs y p q r s = let t = rw room at s in absurd (cc)
    goes-by None false [] y p q r s = let t = rw room at s in absurd (cc)
    goes-by None false (f ∷ fs) y p q r s =
        let feed : ◌≡◌ {A = Behaviour} (pulled w).feed (after w.feed Next) = rw (p, q, r) in
        let gone : (pulled w).feed [] ≡ fs = ap (λ (m : Behaviour). m []) feed ∙ (lawful.nexted [] ∙ ap rest r) in
        let now = ap (λ (ws : List Waiting). length ws) gone in
        let then : length (w.feed []) ≡ suc (length fs) = ap (λ (ws : List Waiting). length ws) r in
        record {
          left = ap (λ n. pulls n (pulled w)) now ∙ sym (ap (λ n. pulls n w) then);
          fewer = omega (arith, now, then);
        }

    pub goes : (a : Result Pulled Fault) → is_ok a ≡ true → a ≡ call.pull_said w b → Goes
    goes (Ok y) t s = goes-by w.shut (on.exhausted w.box) (w.feed []) y refl refl refl s
    goes (Err e) t s = absurd (cc)
