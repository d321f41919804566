-- How the concentrator's combined frames are laid out, port by port.
use Rattle.std.specs.Prelude.{◌≡◌, ℕ, List, ◌++◌, length, Ok, Err, Option, Some, None, Result, nat_lt}
use Rattle.std.proofs.Common.{refl}
use Rattle.std.specs.Option.{option_map}
use Rattle.common.specs.declared.fault.Fault as the_fault
use Rattle.fields.specs.Fields.{bytes16}
use Rattle.crc.specs.CheckWord.{check_word_of}
use Rattle.wire.specs.declared.kind.FrameType.TheVariants.{Data}
use Rattle.wire.specs.Headers.{header_bytes}
use Rattle.wire.specs.Frames.{header_for}
use Rattle.layout.specs.Blocks.{data_length}
use Rattle.layout.proofs.Lengths.{length_blocks}
use Rattle.plan.specs.Ports.{body_length}
use Rattle.sample.specs.Samples.{SampleOf}
use Rattle.sample.proofs.Fits.{passed, sample_fits}
use Rattle.combined.specs.Blocks.{port_at}
use Rattle.combined.specs.Frames.{block_bytes, body_from, quality_of, slot_tag}
use Rattle.engine.specs.Boxes as E
use Rattle.engine.specs.Calls as K
use Rattle.laws.specs.Setting.{Contents}
use Rattle.laws.specs.Bytes.{Layout}
use Rattle.runs.specs.Models.{block_by, block_of, blocks_of}

module _ (e : E.Setting) where
  -- a frame that is sound for a port has a body of the length of its blocks, and any other stands for absent blocks of that length
  pub by-sound : (p : ℕ) (b : List ℕ) (r : Result SampleOf the_fault.Fault) → K.sound_at e p b ≡ r → length (block_by (port_at e.ports p) r).body ≡ data_length (port_at e.ports p).stations
  by-sound p b (Ok x) z = sample_fits e.rate (port_at e.ports p) b x (passed (nat_lt p (length e.ports)) _ _ x z).1
  by-sound p b (Err f) z = length_blocks (port_at e.ports p).stations

  -- a block has the length of its port, whatever fills it
  pub sized : (p : ℕ) (o : Option (List ℕ)) → length (block_bytes (port_at e.ports p) (option_map (block_of e p) o)) ≡ data_length (port_at e.ports p).stations
  sized p None = length_blocks (port_at e.ports p).stations
  sized p (Some b) = by-sound p b (K.sound_at e p b) refl

  -- the header of slot n
  abbrev pub head : ℕ → Contents → List ℕ
  head n x = header_bytes (header_for Data (record { 0 = e.id }) (slot_tag e.rate n (quality_of (blocks_of e x) (length e.ports))) (body_length e.ports))

  -- a header of 14 bytes, a place for each port, and the check word
  abbrev pub layout : Layout
  layout = record {
    before = 14;
    head = head;
    headed = λ n x. refl;
    width = λ p. data_length (port_at e.ports p).stations;
    block = λ p o. block_bytes (port_at e.ports p) (option_map (block_of e p) o);
    sized = sized;
    tail = λ n x. bytes16 (check_word_of (head n x ++ body_from (blocks_of e x) e.ports 0));
  }
