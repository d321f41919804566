use Rattle.std.proofs.Common.{◌≡◌, ℕ, ◌+◌, ◌-◌, List, ◌++◌, take, drop, refl, ap, ◌∙◌, arith, length-append, length-drop}
use borrow.Rule.Slice.PartMut.{put_mid}
use Rattle.std.proofs.lemmas.List.{length-take-le}
use Rattle.fields.specs.Fields.{put, over, bytes16, bytes32}
use Rattle.fields.proofs.Puts.{part-put, put-over, put-later}
use Rattle.wire.specs.declared.kind.FrameType.TheVariants.{Config2}
use Rattle.wire.specs.declared.kind.Version.TheVariants.{Y2011}
use Rattle.wire.specs.Headers.{header_bytes}
use Rattle.wire.specs.Frames.{resealed, sealed}
use Rattle.wire.proofs.Seals.{seals-over}
use Rattle.plan.specs.Ports.{station_count, parts_length}
use Rattle.plan.specs.Tables.{ports_of}
use Rattle.plan.specs.Publish.{tag_at}
use Rattle.plan.proofs.plan.Plan.wrap.Goals as goal

pub returns : goal.returns
returns c =
    let s = c.args.self.now in
    let o = c.args.buffer.now in
    let p = s.parts in
    let n = c.published_len-size.result in
    let long : n ≡ 24 + p = c.published_len-size.ensures.parts in
    let head : ℕ → List ℕ = λ size. header_bytes (record { kind = Config2; version = Y2011; size = size; id = s.id; time = tag_at c.args.reading }) in
    let base = bytes32 1000000 in
    let count = bytes16 s.stations in
    let rate = bytes16 s.rate in
    let first : c.copy_from_slice.new.self ≡ head n = cc in
    let second : c.copy_from_slice-2.new.self ≡ base = c.copy_from_slice-2.ensures.after ∙ c.to_be_bytes.ensures in
    let third : c.copy_from_slice-3.new.self ≡ count = c.copy_from_slice-3.ensures.after ∙ c.to_be_bytes-2.ensures in
    let fourth : c.copy_from_slice-4.new.self ≡ rate = c.copy_from_slice-4.ensures.after ∙ c.to_be_bytes-3.ensures in
    let o1 = c.copy_from_slice.new.self ++ drop 14 o in
    let o2 = put_mid 14 4 o1 c.copy_from_slice-2.new.self in
    let o3 = put_mid 18 2 o2 c.copy_from_slice-3.new.self in
    let o4 = put_mid (n - 4) (n - 2 - (n - 4)) o3 c.copy_from_slice-4.new.self in
    let e1 : o1 ≡ over (head n) o = ap (λ u. u ++ drop 14 o) first in
    let e2 : o2 ≡ over (head n ++ base) o =
    part-put 14 18 o1 c.copy_from_slice-2.new.self base second refl ∙ (ap (λ u. put u 14 base) e1 ∙ put-over (head n) o base 14 refl) in
    let w = (head n ++ base) ++ count in
    let e3 : o3 ≡ over w o =
    part-put 18 20 o2 c.copy_from_slice-3.new.self count third refl ∙ (ap (λ u. put u 18 count) e2 ∙ put-over (head n ++ base) o count 18 refl) in
    let e4 =
    part-put (n - 4) (n - 2) o3 c.copy_from_slice-4.new.self rate fourth (omega arith)
    ∙ (ap (λ u. put u (n - 4) rate) e3 ∙ put-later w o rate p (n - 4) (omega arith) (omega arith)) in
    let t = take p (drop 20 o) in
    let d = length-drop 20 o in
    let l = length-take-le p (drop 20 o) (omega (arith, d)) in
    let r = length-append t rate in
    let whole : n - 0 ≡ n = omega arith in
    let size : n ≡ 16 + (8 + parts_length (ports_of s.table)) = omega arith in
    let framed : ℕ → ℕ → ℕ → List ℕ = λ long stations parts.
    over (sealed (head long ++ (base ++ (bytes16 stations ++ (take parts (drop 20 o) ++ rate))))) o in
    ap (λ u. u ++ drop (n - 0) o4) c.seal.ensures
    ∙ (ap (λ k. resealed (take k o4) ++ drop k o4) whole
    ∙ (ap (λ u. resealed (take n u) ++ drop n u) e4
    ∙ (seals-over ((w ++ t) ++ rate) o n (omega (arith, l, r)) (omega arith)
    ∙ (ap (λ k. framed k s.stations p) size ∙ (ap (λ k. framed (16 + (8 + parts_length (ports_of s.table))) k p) s.counted
    ∙ ap (framed (16 + (8 + parts_length (ports_of s.table))) (station_count (ports_of s.table))) s.filled)))))
