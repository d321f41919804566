-- The engine's model as the machine that the law is about: frames in place of the blocks that they give.
use Rattle.std.specs.Prelude.{ℕ, List, Ok, Err, Result}
use Rattle.std.specs.Option.{option_map}
use Rattle.common.specs.declared.fault.Fault as the_fault
use Rattle.common.specs.Faults.{number}
use Rattle.layout.specs.Blocks.{absent_blocks}
use Rattle.plan.specs.Ports.{PortOf}
use Rattle.sample.specs.Samples.{SampleOf}
use Rattle.combined.specs.Blocks.{Block, Blocks, port_at}
use Rattle.engine.specs.Boxes as E
use Rattle.engine.specs.Calls.{sound_at}
use Rattle.laws.specs.Setting.{Contents, Sort, Fault, Slot}
use Rattle.laws.specs.Machine.{State}

-- what a frame is by itself
abbrev pub sort_of : Result SampleOf the_fault.Fault → Sort
sort_of (Ok x) = Slot x.slot
sort_of (Err e) = Fault (number e)

-- the block that a frame gives at a port
abbrev pub block_by : PortOf → Result SampleOf the_fault.Fault → Block
block_by q (Ok x) = record { quality = x.quality; body = x.body }
block_by q (Err e) = record { quality = 0; body = absent_blocks q.stations }

-- the block that these bytes give at port p
abbrev pub block_of : E.Setting → ℕ → List ℕ → Block
block_of e p b = block_by (port_at e.ports p) (sound_at e p b)

-- by port, the block of the frame that a slot holds, if it holds one
abbrev pub blocks_of : E.Setting → Contents → Blocks
blocks_of e x = λ p. option_map (block_of e p) (x p)

-- the engine's slots, as the machine has them
abbrev pub box_of : E.Setting → State → E.Box
box_of e s = record {
  latest = s.latest;
  front = s.front;
  written = s.written;
  held = λ n. blocks_of e (s.held n);
  arrived = s.arrived;
  out = s.out;
  tally = s.tally;
  judged = s.judged;
}
