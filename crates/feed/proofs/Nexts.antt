-- What a next that succeeded tells, and what becomes of it under a layer.
use Rattle.std.proofs.Common.{◌≡◌, ℕ, Bool, true, false, cond, List, [], ◌∷◌, ◌++◌, length, take, drop, Ok, Err, Result, sym, refl, ap, ◌∙◌}
use Rattle.std.proofs.lemmas.List.{take_at, drop_at}
use Rattle.common.specs.declared.fault.Fault.{Fault}
use Rattle.common.specs.declared.fault.Fault.TheVariants.{Buffer}
use Rattle.fields.specs.Fields.{over}
use Rattle.feed.specs.declared.feed.Taken.{Taken}
use Rattle.feed.specs.Feeds.{Waiting, Next, Behaviour, after}
use Rattle.feed.specs.Calls.{short, first_taken, next_said, next_buffer, next_left}
use Rattle.feed.specs.Maps.{Map, mapped}

abbrev taken_of : Waiting → Taken
taken_of w = record { port = record { 0 = w.port }; len = length w.bytes }

-- a frame was there, and there was room for it
pub record Came (ws : List Waiting) (b : List ℕ) (t : Taken) : Type 0 where
  pub first : Waiting
  pub others : List Waiting
  pub room : short b ≡ false
  pub waited : ws ≡ first ∷ others
  pub told : t ≡ taken_of first

-- what succeeds behind the check of a buffer had room, and succeeded by itself
pub by-room : {X : Type 0} (s : Bool) (r : Result X Fault) (x : X) → Ok x ≡ cond s (Err Buffer) r → (s ≡ false) × (Ok x ≡ r)
by-room true r x e = absurd (cc)
by-room false r x e = (refl, e)

pub came : (ws : List Waiting) (b : List ℕ) (t : Taken) → Ok t ≡ next_said ws b → Came ws b t
came [] b t e =
    let h = by-room (short b) (first_taken []) t e in
    let f : ◌≡◌ {A = Result Taken Fault} (Ok t) (first_taken []) = h.1 in
    absurd (cc)
came (w ∷ ws) b t e =
    let h = by-room (short b) (first_taken (w ∷ ws)) t e in
    let f : ◌≡◌ {A = Result Taken Fault} (Ok t) (Ok (taken_of w)) = h.1 in
    record { first = w; others = ws; room = h.0; waited = refl; told = cc }

-- a layer makes of a feed's next its own
pub record Nexted (m m' : Behaviour) (b b' : List ℕ) (t : Taken) : Type 0 where
  pub answer : Ok t ≡ next_said (m []) b
  pub frame : b' ≡ next_buffer (m []) b
  pub left : m' ≡ next_left m b

-- what it took: the first frame, now at the buffer's front
pub record Got (m m' : Behaviour) (b b' : List ℕ) (t : Taken) (w : Waiting) : Type 0 where
  pub port : t.port.0 ≡ w.port
  pub len : t.len ≡ length w.bytes
  pub front : take t.len b' ≡ w.bytes
  pub back : drop t.len b' ≡ drop (length w.bytes) b
  pub left : m' ≡ after m Next

module _ (m m' : Behaviour) (b b' : List ℕ) (t : Taken) where
  got-first : (w : Waiting) (ws : List Waiting) → short b ≡ false → m [] ≡ w ∷ ws → t ≡ taken_of w → Nexted m m' b b' t → Got m m' b b' t w
  got-first w ws room waited told n =
      let l = length w.bytes in
      let len : t.len ≡ l = ap (λ (x : Taken). x.len) told in
      let full : b' ≡ over w.bytes b = n.frame ∙ rw (room, waited) in
      record {
        port = ap (λ (x : Taken). x.port.0) told;
        len = len;
        front = ap (λ k. take k b') len ∙ (ap (take l) full ∙ take_at w.bytes (drop l b) l refl);
        back = ap (λ k. drop k b') len ∙ (ap (drop l) full ∙ drop_at w.bytes (drop l b) l refl);
        left = n.left ∙ rw (room, waited);
      }

  pub got : (n : Nexted m m' b b' t) (c : Came (m []) b t) → Got m m' b b' t c.first
  got n c = got-first c.first c.others c.room c.waited c.told n

module _ (f : Map) (m m' : Behaviour) (b b' frame : List ℕ) (t : Taken) where
  with_first : (w : Waiting) (ws : List Waiting) → short b ≡ false → m [] ≡ w ∷ ws → Got m m' b b' t w → t ≡ taken_of w → frame ≡ f.on t.port.0 (take t.len b') → Nexted (mapped f m) (mapped f m') b (frame ++ drop t.len b') t
  with_first w ws room waited g told e =
      let k = f.keeps w.port w.bytes in
      let port = g.port in
      let front = g.front in
      let got : frame ≡ f.on w.port w.bytes = cc in
      let rest : drop t.len b' ≡ drop (length (f.on w.port w.bytes)) b = g.back ∙ ap (λ n. drop n b) (sym k) in
      record { answer = rw (room, waited) (cc); frame = rw (room, waited) (cc); left = rw (room, waited) (ap (mapped f) g.left) }

  pub map_next : Nexted m m' b b' t → frame ≡ f.on t.port.0 (take t.len b') → Nexted (mapped f m) (mapped f m') b (frame ++ drop t.len b') t
  map_next n e =
      let c = came (m []) b t n.answer in
      with_first c.first c.others c.room c.waited (got m m' b b' t n c) c.told e
