-- The setting of the law for an engine that opened.
use Rattle.std.specs.Prelude.{◌≡◌, ℕ, ◌+◌, ◌<◌, ◌≤◌, true, List, length, Option}
use Rattle.std.proofs.Common.{inl, inr, arith}
use Rattle.std.proofs.lemmas.Bool.{cases_lt, le-ltb}
use Rattle.policy.specs.Policies.{held as held_reading, held_by}
use Rattle.slots.specs.Slots.{first_slot, window_fits, last_slot_at}
use Rattle.slots.proofs.Stamped.{first-slot, last-slot, window_spans}
use Rattle.combined.specs.Frames.{slot_frame, slot_length}
use Rattle.engine.specs.Boxes as E
use Rattle.engine.specs.Calls as K
use Rattle.laws.specs.Setting.{Setting, Fault, Slot}
use Rattle.runs.specs.Models.{sort_of, blocks_of}
use Rattle.runs.specs.Numbered.{numbered}
use Rattle.common.specs.Readings.{last_reading}

-- what is known of an engine that opened
pub record Opened (e : E.Setting) (closing : E.Closing) (bound reading : ℕ) : Type 0 where
  pub ports : 0 < length e.ports
  pub rate : 0 < e.rate
  pub fits : window_fits e.rate bound ≡ true
  pub usable : reading ≤ last_reading
  pub first : e.first ≡ first_slot e.rate reading
  pub from : (t : ℕ) (a : Option ℕ) → t ≤ closing t a
  pub within : (t : ℕ) (a : Option ℕ) → closing t a ≤ t + bound

-- a sound frame is at one of the plan's ports
pub planned : (e : E.Setting) (p : ℕ) (b : List ℕ) (n : ℕ) → sort_of (K.sound_at e p b) ≡ Slot n → p < length e.ports
planned e p b n q = elim (cases_lt p (length e.ports)) [
  | inl l ↦ l
  | inr l ↦
      let q' : Fault 15 ≡ Slot n = rw (le-ltb p (length e.ports) l) at q in
      let z : ◌≡◌ {A = ℕ} 0 1 = cc in let no : ⊥ = omega arith in absurd no
]

-- what the law speaks of, for an engine that opened: ports, stamps, closings, the first slot and combined frames, with the facts of each
abbrev pub setting : (e : E.Setting) (closing : E.Closing) (bound reading : ℕ) → Opened e closing bound reading → Setting
setting e closing bound reading o = record {
  ports = length e.ports;
  populated = o.ports;
  sound = λ p b. sort_of (K.sound_at e p b);
  numbered = numbered e;
  planned = planned e;
  stamp = E.stamp e;
  upto = E.upto e;
  counted = λ n r h. let l : n ≤ last_slot_at e.rate r = (last-slot e.rate r n o.rate).0 h in omega (arith, l);
  bound = bound;
  closing = λ t a. closing (held_reading t) (held_by a);
  from = λ t a l h u. let f = o.from (held_reading t) (held_by a) in omega (arith, f);
  within = λ t a. let w = o.within (held_reading t) (held_by a) in omega (arith, w);
  spread = λ m n h. window_spans e.rate bound m n o.rate o.fits h;
  opening = reading;
  usable = o.usable;
  first = e.first;
  opens = rw o.first (first-slot e.rate reading o.rate).0;
  lowest = λ n h. rw o.first ((first-slot e.rate reading o.rate).1 n h);
  frame = λ n x. slot_frame e.id e.rate e.ports n (blocks_of e x);
  size = slot_length e.ports;
}
