-- What a concentrator under another means.
use Rattle.std.specs.Prelude.{◌≡◌, ℕ, ◌≤◌, ◌<◌, Bool, true, false, cond, List, length, take, drop, Some, None, Option}
use Rattle.std.proofs.Common.{ap, arith, length-drop}
use Rattle.std.proofs.lemmas.List.{length-take-le}
use Rattle.feed.specs.Feeds.{Meaning}
use Rattle.feed.specs.declared.feed.Feed as feed
use Rattle.policy.specs.declared.policy.Policy as policy
use Rattle.plan.specs.Ports.{PortOf, body_length}
use Rattle.plan.specs.Tables.{ports_of}
use Rattle.cells.specs.declared.cell.Cell.{Cell}
use Rattle.cells.specs.Cells.{present_in, quality_in}
use Rattle.combined.specs.Blocks.{Block, width_of, start_of}
use Rattle.combined.proofs.Spans.{within-body}
use Rattle.engine.specs.Rings.{cell_in, blocks_by, held_in}
use Rattle.engine.specs.declared.engine.Engine.{Engine}
use Rattle.engine.specs.Views.{oldest_of}
use Rattle.concentrator.specs.declared.concentrator.Concentrator.{Concentrator}
use Rattle.concentrator.specs.Wholes.{whole}
use Rattle.stacked.specs.declared.stacked.Stacked.{Stacked}
use Rattle.stacked.specs.Stacks.{stacked}
use Rattle.stacked.specs.Lengths.{Wide}
use Rattle.stacked.specs.Later.{Fits}
use Rattle.stacked.specs.Reaches.{Reached}
use Rattle.stacked.specs.Lawfulness.{stacked-lawful}

-- ---- what a cell holds of a port is as wide as the port's bodies
module _ (ps : List PortOf) (narrow : body_length ps ≤ 1024) where
  -- what a cell holds of a port, if it is present, is as wide as the port's bodies
  by-presence : (c : Cell) (t : Bool) (p quality : ℕ) (b : Block) → p < length ps → cond t (Some (record { quality = quality; body = take (width_of ps p) (drop (start_of ps p) c.body) })) None ≡ Some b → length b.body ≡ width_of ps p
  by-presence c true p quality b l e =
      let is : ◌≡◌ {A = Block} (record { quality = quality; body = take (width_of ps p) (drop (start_of ps p) c.body) }) b = cc in
      let whole : length c.body ≡ 1024 = c.bytes in
      let span = within-body ps p l in
      let behind = length-drop (start_of ps p) c.body in
      let cut = length-take-le (width_of ps p) (drop (start_of ps p) c.body) (omega (arith, span, behind)) in
      omega (arith, cut, ap (λ (y : Block). length y.body) is)
  by-presence c false p quality b l e = cc

  -- so it is with all that a cell holds, if there is one
  by-cell : (o : Option Cell) → Wide ps (blocks_by ps o)
  by-cell (Some c) = record { width = λ p b l e. by-presence c (present_in c p) p (quality_in c p) b l e }
  by-cell None = record { width = λ p b l e. cc }

  -- and with all that the ring holds
  held-fits : (ring : List Cell) (o : ℕ) → Fits ps (held_in ps ring o)
  held-fits ring o = record { slot = λ n. by-cell (cell_in ring o n) }

-- the bodies of an engine's ports have at most 1,024 bytes together
narrow : (e : Engine) → body_length (ports_of e.terms.plan.table) ≤ 1024
narrow e = let l = e.terms.plan.narrow in let m = e.terms.plan.measured in omega (arith, l, m)

-- the code's concentrator is in a state that one under another can reach if, being open, it has no ticket out
pub whole-reached : {F P : Type 0} {f : feed.Ghosts F} {p : policy.Ghosts P} (c : Concentrator F P f p) → ((whole c).shut ≡ None → (whole c).box.out ≡ None) → Reached (whole c)
whole-reached c free =
    let e : Engine = c.engine in
    record { free = free; narrow = narrow e; fits = held-fits (ports_of e.terms.plan.table) (narrow e) e.ring (oldest_of e) }

-- what waits for the box above after each sequence of ticks and nexts, which is lawful
abbrev pub meaning_of : {F P : Type 0} {f : feed.Ghosts F} {p : policy.Ghosts P} → Stacked F P f p → Meaning
meaning_of s =
    record {
      waits = stacked s.port.0 (whole s.concentrator);
      lawful = stacked-lawful s.port.0 (whole s.concentrator) s.line (whole-reached s.concentrator s.free);
    }
