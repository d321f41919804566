-- The frames that wait, slot by slot.
use Rattle.std.specs.Prelude.{◌≡◌, ℕ, zero, suc, ◌+◌, ◌-◌, ◌<◌, ◌≤◌, List, [], ◌∷◌, Some, None, Option, refl}
use Rattle.std.proofs.Common.{sym, ap, ◌∙◌, subst, arith}
use Rattle.common.specs.declared.fault.Fault.{Fault}
use Rattle.feed.specs.Feeds.{Waiting, Within, within_none, within_more, within_both, AllCarried}
use Rattle.plan.specs.Ports.{body_length}
use Rattle.combined.specs.Blocks.{Blocks}
use Rattle.combined.specs.Frames.{slot_frame}
use Rattle.engine.specs.Boxes.{Setting, Box, oldest}
use Rattle.engine.specs.Calls as on
use Rattle.concentrator.specs.Wholes.{Whole}
use Rattle.stacked.specs.Stacks.{frames, ready, waits}
use Rattle.stacked.specs.Lengths.{frame-length}
use Rattle.stacked.specs.Later.{Fits, After, Later}
use Rattle.stacked.specs.Reaches.{Reached}

-- the frames of k slots from n on are the same in two states
abbrev pub SameHeld : Box → Box → ℕ → ℕ → Type 0
SameHeld s t n k = (j : ℕ) → n ≤ j → j < n + k → t.held j ≡ s.held j

module _ (port : ℕ) (g : Setting) where
  -- two boxes that hold the same in k slots from n on have the same frames ready of these
  pub same_frames : (s t : Box) (k n : ℕ) → SameHeld s t n k → frames port g t n k ≡ frames port g s n k
  same_frames s t zero n h = refl
  same_frames s t (suc k) n h =
      let others = same_frames s t k (suc n) (λ j low high. h j (omega arith) (omega arith)) in
      ap (λ (x : Blocks). record { port = port; bytes = slot_frame g.id g.rate g.ports n x } ∷ frames port g t (suc n) k) (h n (omega arith) (omega arith))
      ∙ ap (λ (ws : List Waiting). record { port = port; bytes = on.frame_of g s n } ∷ ws) others

  -- no frames stand within any
  none_within : (ws : List Waiting) → Within [] ws
  none_within [] = within_none
  none_within (w ∷ ws) = within_more (none_within ws)

  -- the frames of fewer slots stand within those of more
  more_frames : (s : Box) (k m n : ℕ) → k ≤ m → Within (frames port g s n k) (frames port g s n m)
  more_frames s zero m n h = none_within (frames port g s n m)
  more_frames s (suc k) zero n h = absurd (omega arith)
  more_frames s (suc k) (suc m) n h = within_both (more_frames s k m (suc n) (omega arith))

  -- what waited stands first in what waits after a tick
  pub ready_within : (s t : Box) → After g s t → Within (ready port g s) (ready port g t)
  ready_within s t a =
      let o = oldest g s in
      let k = s.front - o in
      let up : s.front ≤ t.front = a.front in
      let same : frames port g t o k ≡ frames port g s o k = same_frames s t k o (λ j low high. a.closed j (omega arith)) in
      let at : oldest g t ≡ o = ap (λ n. g.first + n) a.written in
      subst (λ (ws : List Waiting). Within ws (ready port g t)) same
      (subst (λ n. Within (frames port g t o k) (frames port g t n (t.front - n))) (sym at) (more_frames t k (t.front - o) o (omega arith)))

  -- each can be carried
  pub frames_carried : (s : Box) (k n : ℕ) → port ≤ 15 → body_length g.ports ≤ 1024 → Fits g.ports s.held → AllCarried (frames port g s n k)
  frames_carried s zero n line narrow fits = tt
  frames_carried s (suc k) n line narrow fits =
      let l = frame-length g.id g.rate n g.ports (s.held n) (fits.slot n) in
      (record { line = line; some = omega (arith, l); few = omega (arith, l) }, frames_carried s k (suc n) line narrow fits)

module _ (port : ℕ) where
  -- if frames stand within others where it is open, they do where it may be shut
  within-shut : (o : Option Fault) (xs ys : List Waiting) → Within xs ys → Within (on.if_open o [] xs) (on.if_open o [] ys)
  within-shut (Some f) xs ys h = within_none
  within-shut None xs ys h = h

  -- what waits at a concentrator waits later, too, in the same order
  pub waits_within : {w v : Whole} → Later w v → Within (waits port w) (waits port v)
  waits_within {w} {v} l =
      subst (λ (o : Option Fault). Within (waits port w) (on.if_open o [] (ready port v.setting v.box))) (sym l.shut)
      (subst (λ (g : Setting). Within (waits port w) (on.if_open w.shut [] (ready port g v.box))) (sym l.setting)
      (within-shut w.shut _ _ (ready_within port w.setting w.box v.box l.slots)))

  -- if frames can be carried where it is open, they can where it may be shut
  carried-shut : (o : Option Fault) (xs : List Waiting) → AllCarried xs → AllCarried (on.if_open o [] xs)
  carried-shut (Some f) xs h = tt
  carried-shut None xs h = h

  -- all that waits at a concentrator a feed can carry
  pub waits_carried : (w : Whole) → port ≤ 15 → Reached w → AllCarried (waits port w)
  waits_carried w line r = carried-shut w.shut _ (frames_carried port w.setting w.box _ _ line r.narrow r.fits)
