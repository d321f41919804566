-- What a shift does to a frame.
use Rattle.std.proofs.Common.{◌≡◌, ℕ, ◌+◌, ◌^◌, ◌<◌, ◌≤◌, Bool, true, false, cond, leb, List, [], ◌∷◌, map, length, get_or, ℤ, pos, negsuc, ◌+ℤ◌, ◌≤ℤ◌, ◌<ℤ◌, Some, None, Ok, Err, Option, Result, refl, ap, ◌∙◌, arith}
use mathlib.Core.Path.{fun_ext}
use Rattle.std.proofs.lemmas.Int.{ints}
use Rattle.std.proofs.lemmas.Bool.{cond-true, eqb-true, le-leb, lt-leb}
use Rattle.common.specs.declared.fault.Fault.{Fault}
use Rattle.fields.specs.Fields.{be32, fits}
use Rattle.wire.specs.Frames.{Told, classified}
use Rattle.shift.specs.Shifts.{in_soc, is_zero, moved, soc_of, target_by, target, stamped, shifted}
use Rattle.feed.specs.Feeds.{Waiting}
use Rattle.feed.specs.Maps.{changed}
use Rattle.shift.specs.Lines.{by_line}
use Rattle.shift.specs.Laws.{due, Moves, SoundMoves, ZeroStays, ZeroLayer}
use Rattle.shift.proofs.Sound.{sound-checks, sound-long, told-alike}
use Rattle.shift.proofs.Stamps.{stamp-before, stamp-behind, stamp-soc, stamp-alike}

-- a second in the range of SOC, and those out of it
in_range : (t : ℤ) → pos 0 ≤ℤ t → t ≤ℤ pos 4294967295 → (v : ℕ) × (in_soc t ≡ Some v) × (pos v ≡ t) × (v < 2 ^ 32)
in_range (pos n) low high =
    let h : n ≤ 4294967295 = omega (arith, ints) in
    (n, cond-true (leb n 4294967295) (Some n) None (le-leb n 4294967295 h), refl, omega arith)
in_range (negsuc n) low high = absurd (omega (arith, ints))

too_early : (t : ℤ) → t <ℤ pos 0 → in_soc t ≡ None
too_early (pos n) h = absurd (omega (arith, ints))
too_early (negsuc n) h = refl

too_late : (t : ℤ) → pos 4294967295 <ℤ t → in_soc t ≡ None
too_late (pos n) h =
    let l : 4294967295 < n = omega (arith, ints) in
    ap (λ b. cond b (Some n) None) (lt-leb n 4294967295 l)
too_late (negsuc n) h = refl

none_either_way : (b : Bool) (o : Option ℕ) → o ≡ None → cond b None o ≡ None
none_either_way true o e = refl
none_either_way false o e = e

no_seconds : (z : ℤ) (soc : ℕ) → is_zero z ≡ true → pos soc ≡ pos soc +ℤ z
no_seconds (pos n) soc e = let h : soc ≡ soc + n = omega (arith, eqb-true n 0 e) in ap pos h
no_seconds (negsuc n) soc e = absurd (cc)

-- where a frame's target is known, so is what it becomes
module _ (z : ℤ) (bs : List ℕ) (t : Told) (sound : classified bs ≡ Ok t) where
  long : 16 ≤ length bs
  long = sound-long bs t sound

  soc-there : soc_of bs ≡ Some (be32 bs 6)
  soc-there = cond-true (fits bs 6 4) (Some (be32 bs 6)) None (le-leb 10 (length bs) (let l = long in omega arith))

  target_is : target z bs ≡ moved z (be32 bs 6)
  target_is = (λ i. target_by (sound i) (soc-there i) z)

  -- what holds of the frame as it was and of every frame with another SOC holds of the shifted one
  each_way : (P : List ℕ → Type 0) → P bs → ((soc : ℕ) → P (stamped (Some soc) bs)) → P (shifted z bs)
  each_way P old new =
      elim (target z bs) as (λ o. P (stamped o bs)) [ None ↦ old | Some soc ↦ new soc ]

  stays : in_soc (due z bs) ≡ None → shifted z bs ≡ bs
  stays e = ap (λ o. stamped o bs) (target_is ∙ none_either_way (is_zero z) (in_soc (due z bs)) e)

  by_zero : (b : Bool) → is_zero z ≡ b → pos 0 ≤ℤ due z bs → due z bs ≤ℤ pos 4294967295 → pos (be32 (stamped (cond b None (in_soc (due z bs))) bs) 6) ≡ due z bs
  by_zero true e low high = no_seconds z (be32 bs 6) e
  by_zero false e low high =
      let v = in_range (due z bs) low high in
      ap (λ o. pos (be32 (stamped o bs) 6)) v.1 ∙ (ap pos (stamp-soc bs v.0 long v.3) ∙ v.2)

  moves : Moves z bs
  moves =
      record {
        told = each_way (λ xs. classified xs ≡ classified bs) refl
            (λ soc. told-alike (stamped (Some soc) bs) bs (stamp-alike bs soc long (sound-checks bs t sound)));
        moved = λ low high. ap (λ o. pos (be32 (stamped o bs) 6)) target_is ∙ by_zero (is_zero z) refl low high;
        early = λ h. stays (too_early (due z bs) h);
        late = λ h. stays (too_late (due z bs) h);
        before = λ i h. each_way (λ xs. get_or xs i 0 ≡ get_or bs i 0) refl (λ soc. stamp-before bs soc long i h);
        behind = λ i h g. each_way (λ xs. get_or xs i 0 ≡ get_or bs i 0) refl (λ soc. stamp-behind bs soc long i h g);
      }

pub sound-moves : SoundMoves
sound-moves = moves

zero_by : (r : Result Told Fault) (o : Option ℕ) → target_by r o (pos 0) ≡ None
zero_by (Ok t) (Some soc) = refl
zero_by (Ok t) None = refl
zero_by (Err e) o = refl

pub zero_stays : ZeroStays
zero_stays bs = ap (λ o. stamped o bs) (zero_by (classified bs) (soc_of bs))

-- so does a layer of such shifts, frame by frame
module _ (zs : List ℤ) (none : (port : ℕ) → get_or zs port (pos 0) ≡ pos 0) where
  same-frame : (w : Waiting) → changed (by_line zs) w ≡ w
  same-frame w =
      let e : shifted (get_or zs w.port (pos 0)) w.bytes ≡ w.bytes =
      ap (λ z. shifted z w.bytes) (none w.port) ∙ zero_stays w.bytes in
      λ i. record { port = w.port; bytes = e i }

  same-frames : (ws : List Waiting) → map (changed (by_line zs)) ws ≡ ws
  same-frames [] = refl
  same-frames (w ∷ ws) = λ i. same-frame w i ∷ same-frames ws i

pub zero_layer : ZeroLayer
zero_layer zs none m = fun_ext (λ ops. same-frames zs none (m ops))
