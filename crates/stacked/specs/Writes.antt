-- What a next does: it takes and writes the oldest closed slot, or finds none.
use Rattle.std.specs.Prelude.{◌≡◌, ℕ, suc, ◌+◌, ◌-◌, ◌<◌, ◌≤◌, Bool, true, false, cond, ◌⊎◌, List, [], ◌∷◌, Some, None, Ok, Err, Option, nat_lt, ◌==◌, refl}
use Rattle.std.proofs.Common.{ap, ◌∙◌, inl, inr, arith}
use Rattle.std.proofs.Math.Path.{fun_ext}
use Rattle.std.proofs.lemmas.Bool.{cases_lt, lt-ltb, le-ltb, eq-eqb, ne_eqb}
use Rattle.common.specs.declared.fault.Fault.{Fault}
use Rattle.common.specs.declared.fault.Fault.TheVariants as fault
use Rattle.combined.specs.Blocks.{Block}
use Rattle.combined.specs.Frames.{slot_length}
use Rattle.feed.specs.Feeds.{Waiting, Next}
use Rattle.engine.specs.Boxes.{oldest}
use Rattle.engine.specs.Calls as on
use Rattle.concentrator.specs.Wholes.{Whole, moved}
use Rattle.concentrator.specs.Calls as call
use Rattle.stacked.specs.Stacks.{frames, waits, step, wrote_by}
use Rattle.stacked.specs.Reaches.{Reached}
use Rattle.stacked.specs.Ready.{same_frames}

-- the number of the oldest unwritten slot
abbrev pub oldest_of : Whole → ℕ
oldest_of w = oldest w.setting w.box

-- what is left once the oldest slot is lent
abbrev pub lent : Whole → Whole
lent w = moved w (on.with_ticket w.box (Some (oldest_of w))) w.feed

-- what is left once the oldest slot is written and its ticket spent
abbrev pub written : Whole → Whole
written w = moved w (on.cleared (on.with_ticket w.box (Some (oldest_of w))) (oldest_of w)) w.feed

-- a slot is closed and unwritten, and is lent
pub record Lends (w : Whole) : Type 0 where
  pub opened : w.shut ≡ None
  pub closed : oldest_of w < w.box.front
  pub said : call.take_said w ≡ Ok (oldest_of w)
  pub left : call.lent w ≡ lent w

-- no slot is closed and unwritten: nothing waits, and a take is refused and changes nothing
pub record Refuses (w : Whole) : Type 0 where
  pub empty : (port : ℕ) → waits port w ≡ []
  pub fault : Fault
  pub said : call.take_said w ≡ Err fault
  pub left : call.lent w ≡ w

module _ (w : Whole) (r : Reached w) where
  -- the oldest slot is lent, or nothing waits
  pub lends_or_refuses : Lends w ⊎ Refuses w
  lends_or_refuses = by-shut w.shut refl
    where
      by-shut : (o : Option Fault) → w.shut ≡ o → Lends w ⊎ Refuses w
      by-shut (Some f) e = inr (record { empty = λ port. rw e; fault = f; said = rw e; left = rw e })
      by-shut None e =
          let out = r.free e in
          elim (cases_lt (oldest_of w) w.box.front) [
            | inl l ↦
                (let t = lt-ltb (oldest_of w) w.box.front l in
                inl (record { opened = e; closed = l; said = rw (e, out, t); left = rw (e, out, t) }))
            | inr h ↦
                (let t = le-ltb (oldest_of w) w.box.front h in
                let z : w.box.front - oldest_of w ≡ 0 = omega arith in
                inr (record { empty = λ port. rw (e, z); fault = fault.NoneClosed; said = rw (e, out, t); left = rw (e, out, t) }))
          ]

  -- a buffer of 1,040 bytes is room enough
  room : (n : ℕ) → 1040 ≤ n → nat_lt n (slot_length w.setting.ports) ≡ false
  room n h = let l = r.narrow in le-ltb n (slot_length w.setting.ports) (omega (arith, l))

  -- a write with that ticket into a buffer for the longest frame leaves the slot written
  pub wrote-next : (n : ℕ) → 1040 ≤ n → Lends w → call.wrote (lent w) (oldest_of w) n ≡ written w
  wrote-next n h l = rw (l.opened, eq-eqb (oldest_of w) (oldest_of w) refl, room n h)

  -- and it answers the length of the combined frame
  pub write-said : (n : ℕ) → 1040 ≤ n → Lends w → call.write_said (lent w) (oldest_of w) n ≡ Ok (slot_length w.setting.ports)
  write-said n h l = rw (l.opened, eq-eqb (oldest_of w) (oldest_of w) refl, room n h)

  -- ---- the machine's step
  -- where a slot is closed and unwritten a next leaves it written
  pub step_lends : Lends w → step w Next ≡ written w
  step_lends l =
      ap (wrote_by w) l.said
      ∙ (ap (λ (v : Whole). call.wrote v (oldest_of w) 1040) l.left ∙ wrote-next 1040 (omega arith) l)

  -- where nothing waits a next changes nothing
  pub step_refuses : Refuses w → step w Next ≡ w
  step_refuses u = ap (wrote_by w) u.said

  -- ---- what waits, with a slot that is closed and unwritten
  -- the frames of the closed slots behind the oldest one
  abbrev pub more : ℕ → List Waiting
  more port = frames port w.setting w.box (suc (oldest_of w)) (w.box.front - suc (oldest_of w))

  -- the first frame that waits is that of the oldest slot, and the others come behind
  pub first_waits : (port : ℕ) → Lends w → waits port w ≡ record { port = port; bytes = call.frame_of w (oldest_of w) } ∷ more port
  first_waits port l =
      let o : ℕ = oldest_of w in
      let low : o < w.box.front = l.closed in
      let n : w.box.front - o ≡ suc (w.box.front - suc o) = omega arith in
      rw (l.opened, n)

  -- once it is written the others wait
  pub more_wait : (port : ℕ) → Lends w → waits port (written w) ≡ more port
  more_wait port l =
      let o : ℕ = oldest_of w in
      let at : w.setting.first + suc w.box.written ≡ suc o = omega arith in
      rw (l.opened, at)
      (same_frames port w.setting w.box (written w).box (w.box.front - suc o) (suc o)
      (λ j low high. fun_ext (λ p. rw (ne_eqb o j (λ e. omega arith)))))

  -- ---- the written state is one that can be reached
  -- what is held once something is cleared was held before
  cleared-fits : (b : Bool) (held : Option Block) (x : Block) → cond b None held ≡ Some x → held ≡ Some x
  cleared-fits true held x e = cc
  cleared-fits false held x e = e

  -- what is left then is a concentrator that calls lead to
  pub written_reached : Reached (written w)
  written_reached =
      record {
        free = λ e. refl;
        narrow = r.narrow;
        fits = record {
          slot = λ n. record {
            width = λ p b l e. (r.fits.slot n).width p b l (cleared-fits (oldest_of w == n) (w.box.held n p) b e);
          };
        };
      }
