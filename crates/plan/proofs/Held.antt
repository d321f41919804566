-- The parts that a buffer holds from byte 20 on.
use Rattle.std.proofs.Common.{◌≡◌, ℕ, ◌+◌, ◌≤◌, List, ◌++◌, length, take, drop, sym, ap, ◌∙◌, append_assoc, arith, length-append, length-drop}
use Rattle.std.proofs.lemmas.List.{length-take-le, take_at, drop-take, drop-append-le}
use Rattle.crc.specs.CheckWord.{check_word_of}
use Rattle.fields.specs.Fields.{put, over, bytes16}
use Rattle.wire.specs.Headers.{header_bytes}
use Rattle.wire.specs.Frames.{sealed}
use Rattle.wire.proofs.Seals.{length-sealed}
use Rattle.plan.specs.Ports.{parts_length}
use Rattle.plan.specs.Plans.{PlanOf}
use Rattle.plan.specs.Publish.{published_length, published_body, published_header, published_frame}

-- bytes put behind the first n of them
module _ (buffer bs : List ℕ) (n : ℕ) (room : 24 + n + length bs ≤ length buffer) where
  front : length (take (20 + n) buffer) ≡ 20 + n
  front = length-take-le (20 + n) buffer (omega arith)

  pub held-put : take (n + length bs) (drop 20 (put buffer (20 + n) bs)) ≡ take n (drop 20 buffer) ++ bs
  held-put =
      let rest = drop (20 + n + length bs) buffer in
      let d = length-drop 20 buffer in
      let old = length-take-le n (drop 20 buffer) (omega (arith, d)) in
      let both = length-append (take n (drop 20 buffer)) bs in
      ap (take (n + length bs)) (drop-append-le 20 (take (20 + n) buffer) (bs ++ rest) (omega (arith, front))
      ∙ (ap (λ u. u ++ (bs ++ rest)) (drop-take 20 n buffer) ∙ sym (append_assoc (take n (drop 20 buffer)) bs rest)))
      ∙ take_at (take n (drop 20 buffer) ++ bs) rest (n + length bs) (omega (arith, old, both))

  pub length-put : length (put buffer (20 + n) bs) ≡ length buffer
  length-put =
      let rest = drop (20 + n + length bs) buffer in
      let a = length-append (take (20 + n) buffer) (bs ++ rest) in
      let b = length-append bs rest in
      let c = length-drop (20 + n + length bs) buffer in
      omega (arith, front, a, b, c)

-- a published body
module _ (p : PlanOf) (buffer : List ℕ) (room : published_length p ≤ length buffer) where
  pub length-held : length (take (parts_length p.ports) (drop 20 buffer)) ≡ parts_length p.ports
  length-held = let d = length-drop 20 buffer in length-take-le (parts_length p.ports) (drop 20 buffer) (omega (arith, d))

  pub length-body : length (published_body p buffer) ≡ 8 + parts_length p.ports
  length-body =
      let a = length-append (take (parts_length p.ports) (drop 20 buffer)) (bytes16 p.rate) in
      omega (arith, a, length-held)

-- a published frame
module _ (p : PlanOf) (reading : ℕ) (buffer : List ℕ) (room : published_length p ≤ length buffer) where
  pub length-frame : length (published_frame p reading buffer) ≡ published_length p
  length-frame =
      let a = length-sealed (header_bytes (published_header p reading) ++ published_body p buffer) in
      omega (arith, a, length-body p buffer room)

  -- it holds the same parts
  pub held-over : take (parts_length p.ports) (drop 20 (over (published_frame p reading buffer) buffer)) ≡ take (parts_length p.ports) (drop 20 buffer)
  unfolding sealed
  held-over =
      let h = take (parts_length p.ports) (drop 20 buffer) in
      let check = bytes16 (check_word_of (header_bytes (published_header p reading) ++ published_body p buffer)) in
      let rest = drop (length (published_frame p reading buffer)) buffer in
      ap (take (parts_length p.ports)) (append_assoc (h ++ bytes16 p.rate) check rest ∙ append_assoc h (bytes16 p.rate) (check ++ rest))
      ∙ take_at h (bytes16 p.rate ++ (check ++ rest)) (parts_length p.ports) (length-held p buffer room)

  pub length_over : length (over (published_frame p reading buffer) buffer) ≡ length buffer
  length_over =
      let f = published_frame p reading buffer in
      let a = length-append f (drop (length f) buffer) in
      let b = length-drop (length f) buffer in
      omega (arith, a, b, length-frame)
