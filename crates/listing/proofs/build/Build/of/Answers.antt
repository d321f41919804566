use Rattle.std.proofs.Common.{◌≡◌, ◌∙◌, sym, ap, length, unwrap_or, rules}
use Rattle.std.proofs.lemmas.List.{take_at}
use Rattle.plan.specs.Plans.{begun as begun_plan}
use Rattle.plan.specs.Views.{plan_of}
use Rattle.listing.specs.Builds.{after_lines, outcomes, published}
use Rattle.listing.specs.Lines.{first_rate}
use Rattle.listing.proofs.BuildsLemmas.{plan-none, buffer-none, outcomes-none, so_far, plan-one_more, buffer-one_more, lines-one_more}
use Rattle.listing.proofs.build.Build.of.Goals as goal

pub loop-line-init : goal.loop-line-init
loop-line-init c =
    let rs = c.args.records.now in
    let plan : plan_of c.begin-plan.result ≡ begun_plan c.args.id.0 (unwrap_or (first_rate rs) 0) = search rules in
    let zeros = c.in_ok-buffer.ensures.items_if_clones_equal (λ y same. search rules) in
    let none = c.new-lines.ensures.items in
    (search (plan, plan-none c.args.id.0 rs), zeros ∙ sym (buffer-none c.args.id.0 rs), search (none, outcomes-none c.args.id.0 rs))

pub loop-line-preserved : goal.loop-line-preserved
loop-line-preserved c =
    let rs = c.args.records.now in
    let k = c.loop-line.line in
    let p = plan_of c.loop-line.plan in
    let b = c.deref_mut.result.now in
    let i = c.loop-line.invariant in
    let held = c.deref_mut.ensures.value ∙ i.1 in
    let a = c.add_line.ensures in
    let kept : length c.add_line.new.buffer ≡ c.loop-line.buffer.len = search rules in
    (plan-one_more c.args.id.0 rs k p b i.0 held _ a.plan, take_at c.add_line.new.buffer _ c.loop-line.buffer.len kept ∙ buffer-one_more c.args.id.0 rs k p b i.0 held _ a.after, c.in_ok-push.ensures.items ∙ lines-one_more c.args.id.0 rs k p b i.0 held _ _ i.2 a.answer)

pub returns-clause-plan : goal.returns-clause-plan
returns-clause-plan c =
    let done : c.loop-line.line ≡ 16 = search rules in
    c.loop-line.invariant.0 ∙ ap (λ k. (after_lines c.args.id.0 c.args.records.now k).plan) done

pub returns-clause-lines : goal.returns-clause-lines
returns-clause-lines c =
    let done : c.loop-line.line ≡ 16 = search rules in
    c.loop-line.invariant.2 ∙ ap (outcomes c.args.id.0 c.args.records.now) done

pub returns-clause-combined : goal.returns-clause-combined
returns-clause-combined c =
    let rs = c.args.records.now in
    let done : c.loop-line.line ≡ 16 = search rules in
    let i = c.loop-line.invariant in
    let s = so_far c.args.id.0 rs c.loop-line.line (plan_of c.loop-line.plan) c.loop-line.buffer.items i.0 i.1 ∙ ap (after_lines c.args.id.0 rs) done in
    c.publish-combined.ensures ∙ (ap (λ x. published x c.last_reading.result) s ∙ ap (published (after_lines c.args.id.0 rs 16)) c.last_reading.ensures)
