use Rattle.std.proofs.Common.{◌≡◌, ◌+◌, ◌-◌, ◌++◌, length, take, drop, refl, sym, ap, ◌∙◌, arith, rules}
use Rattle.std.proofs.lemmas.List.{length-take-le}
use borrow.Rule.Slice.PartMut.{put_mid}
use Rattle.fields.specs.Fields.{put, over}
use Rattle.fields.proofs.Puts.{part-put, put-over}
use Rattle.wire.specs.declared.kind.Version.TheVariants.{Y2011}
use Rattle.wire.specs.Headers.{header_bytes}
use Rattle.wire.specs.Frames.{header_for, resealed}
use Rattle.wire.proofs.Again.{told-again}
use Rattle.wire.proofs.Seals.{seals-over}
use Rattle.wire.proofs.write.write_frame.Goals as goal

pub returns-in_err-size-clause-told_again : goal.returns-in_err-size-clause-told_again
returns-in_err-size-clause-told_again c = told-again

pub returns-then-out-end-clause-told_again : goal.returns-then-out-end-clause-told_again
returns-then-out-end-clause-told_again c = told-again

pub returns-clause-told_again : goal.returns-clause-told_again
returns-clause-told_again c = told-again

pub copy_from_slice-requires : goal.copy_from_slice-requires
copy_from_slice-requires c = length-take-le 14 c.args.out.now (omega arith) ∙ sym (ap length c.to_bytes.ensures.value)

pub returns-clause-after : goal.returns-clause-after
returns-clause-after c =
    let o = c.args.out.now in
    let body = c.args.body.now in
    let n = 16 + length body in
    let head = header_bytes (header_for c.args.kind c.args.id c.args.time (length body)) in
    let size : c.in_ok-size.size ≡ n = search rules in
    let first : c.copy_from_slice.new.self ≡ head =
    c.copy_from_slice.ensures.after
    ∙ (c.to_bytes.ensures.value ∙ ap (λ m. header_bytes (record { kind = c.args.kind; version = Y2011; size = m; id = c.args.id; time = c.args.time })) size) in
    let out = put_mid 14 (n - 2 - 14) (c.copy_from_slice.new.self ++ drop 14 o) c.copy_from_slice-2.new.self in
    let both : out ≡ over (head ++ body) o =
    part-put 14 (n - 2) (c.copy_from_slice.new.self ++ drop 14 o) c.copy_from_slice-2.new.self body c.copy_from_slice-2.ensures.after (omega arith)
    ∙ (ap (λ u. put (u ++ drop 14 o) 14 body) first ∙ put-over head o body 14 refl) in
    ap (λ u. u ++ drop n out) c.seal.ensures
    ∙ (ap (λ u. resealed (take n u) ++ drop n u) both ∙ seals-over (head ++ body) o n (omega arith) (omega arith))
