-- What is written is told apart again as what went in.
use Rattle.std.specs.Prelude.{◌≡◌, ℕ, ◌+◌, ◌^◌, ◌<◌, ◌≤◌, List, ◌++◌, length, Ok}
use Rattle.wire.specs.declared.header.Header.{Header}
use Rattle.wire.specs.Headers.{header_of, header_bytes}
use Rattle.wire.specs.Frames.{classified, telling, frame_bytes}

-- each field has a value that its bytes can hold
pub record Fits (h : Header) : Type 0 where
  pub size : h.size < 2 ^ 16
  pub id : h.id.0 < 2 ^ 16
  pub soc : h.time.soc < 2 ^ 32
  pub count : h.time.count < 2 ^ 24

-- a header is read back whole, of every type and version
abbrev pub HeaderAgain : Type 0
HeaderAgain = (h : Header) (rest : List ℕ) → Fits h → 2 ≤ length rest → header_of (header_bytes h ++ rest) ≡ Ok h

-- a frame whose FRAMESIZE is right is told as its type, with its body
abbrev pub ToldAgain : Type 0
ToldAgain =
    (h : Header) (body : List ℕ) → Fits h → h.size ≡ 16 + length body → classified (frame_bytes h body) ≡ Ok (telling h.kind body)
