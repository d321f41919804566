-- The frame of a slot is as long as its ports' bodies ask for, where each frame in the slot has its port's width.
use Rattle.std.specs.Prelude.{◌≡◌, ℕ, suc, ◌+◌, ◌<◌, List, [], ◌∷◌, ◌++◌, length, Some, None, Option, refl}
use Rattle.std.proofs.Common.{ap, ◌∙◌, arith, length-append}
use Rattle.std.proofs.lemmas.List.Sums.{sum_by-cons}
use Rattle.wire.proofs.Seals.{length-sealed}
use Rattle.wire.specs.declared.header.Header.{Header}
use Rattle.wire.specs.declared.kind.FrameType.TheVariants.{Data}
use Rattle.wire.specs.Headers.{header_bytes}
use Rattle.wire.specs.Frames.{header_for}
use Rattle.layout.specs.Blocks.{data_length}
use Rattle.layout.proofs.Lengths.{length_blocks}
use Rattle.plan.specs.Ports.{PortOf, body_length}
use Rattle.combined.specs.Blocks.{Block, Blocks, width_of}
use Rattle.combined.specs.Frames.{block_bytes, body_from, quality_of, slot_tag, slot_frame, slot_length}

-- each frame that a slot has of a port is as wide as the port's bodies
pub record Wide (ps : List PortOf) (x : Blocks) : Type 0 where
  pub width : (p : ℕ) (b : Block) → p < length ps → x p ≡ Some b → length b.body ≡ width_of ps p

-- a port's bytes in a frame are as many as its stations ask for
block-length : (q : PortOf) (o : Option Block) → ((b : Block) → o ≡ Some b → length b.body ≡ data_length q.stations) → length (block_bytes q o) ≡ data_length q.stations
block-length q (Some b) h = h b refl
block-length q None h = length_blocks q.stations

-- the frames of the ports from the one numbered k on are as wide
abbrev WideFrom : List PortOf → Blocks → ℕ → Type 0
WideFrom qs x k = (i : ℕ) (b : Block) → i < length qs → x (k + i) ≡ Some b → length b.body ≡ width_of qs i

-- the ports' bytes together are as many as all stations ask for
body-length : (qs : List PortOf) (x : Blocks) (k : ℕ) → WideFrom qs x k → length (body_from x qs k) ≡ body_length qs
body-length [] x k h = refl
body-length (q ∷ qs) x k h =
    let first : length (block_bytes q (x k)) ≡ data_length q.stations = block-length q (x k) (λ b e. h 0 b (omega arith) (ap x (omega arith) ∙ e)) in
    let others : length (body_from x qs (k + 1)) ≡ body_length qs = body-length qs x (k + 1) (λ i b l e. h (suc i) b (omega arith) (ap x (omega arith) ∙ e)) in
    omega (arith, first, others, length-append (block_bytes q (x k)) (body_from x qs (k + 1)), sum_by-cons (λ (p : PortOf). data_length p.stations) q qs)

-- a header has 14 bytes
header-length : (h : Header) → length (header_bytes h) ≡ 14
header-length h = refl

-- the frame of a slot has the length that its ports ask for, if every frame in it is as wide as its port's bodies
pub frame-length : (id rate n : ℕ) (ps : List PortOf) (x : Blocks) → Wide ps x → length (slot_frame id rate ps n x) ≡ slot_length ps
frame-length id rate n ps x w =
    let h : Header = header_for Data (record { 0 = id }) (slot_tag rate n (quality_of x (length ps))) (body_length ps) in
    let body = body_from x ps 0 in
    let long : length body ≡ body_length ps = body-length ps x 0 (λ i b l e. w.width i b l (ap x (omega arith) ∙ e)) in
    omega (arith, length-sealed (header_bytes h ++ body), length-append (header_bytes h) body, header-length h, long)
