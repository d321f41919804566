-- Layers that change the frames of a feed one by one: each keeps its line and its length.
use Rattle.std.specs.Prelude.{◌≡◌, ℕ, ◌≤◌, List, length}
use Rattle.std.proofs.Common.{arith}
use Rattle.feed.specs.Feeds.{Waiting, Behaviour, Carried, Lawful, Meaning}
use Rattle.feed.specs.Changes.{each, each-lawful}

-- what becomes of a frame of a line, with as many bytes as it had
pub record Map : Type 0 where
  pub on : ℕ → List ℕ → List ℕ
  pub keeps : (port : ℕ) (bytes : List ℕ) → length (on port bytes) ≡ length bytes

-- a waiting frame once a layer has changed it, still of its line
abbrev pub changed : Map → Waiting → Waiting
changed f w = record { port = w.port; bytes = f.on w.port w.bytes }

-- each waiting frame is changed, and nothing else
abbrev pub mapped : Map → Behaviour → Behaviour
mapped f = each (changed f)

-- a frame that can be carried still can once it is changed
pub carried-changed : (f : Map) (w : Waiting) → Carried w → Carried (changed f w)
carried-changed f w c =
    let e = f.keeps w.port w.bytes in
    let s : 1 ≤ length w.bytes = c.some in
    let t : length w.bytes ≤ 1040 = c.few in
    record { line = c.line; some = omega (arith, e); few = omega (arith, e) }

-- any such layer over a lawful feed is lawful
pub mapped-lawful : (f : Map) (m : Behaviour) → Lawful m → Lawful (mapped f m)
mapped-lawful f = each-lawful (changed f) (carried-changed f)

-- what a feed means under a layer
abbrev pub through : Map → Meaning → Meaning
through f m = record { waits = mapped f m.waits; lawful = mapped-lawful f m.waits m.lawful }
