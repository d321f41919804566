use Rattle.std.proofs.Common.{◌≡◌, ◌∙◌, Ok, Err, ap, length, take, drop, rules}
use Rattle.std.proofs.lemmas.List.{take_at}
use Rattle.plan.specs.Views.{plan_of}
use Rattle.listing.specs.Builds.{bytes_by, published}
use Rattle.listing.proofs.BuildsLemmas.{published_by}
use Rattle.listing.proofs.build.publish.Goals as goal

pub returns : goal.returns
returns c =
    let kept : length c.publish.new.buffer ≡ c.args.buffer.len = search rules in
    let whole = take_at c.publish.new.buffer (drop (length c.publish.new.buffer) c.args.buffer.items) c.args.buffer.len kept in
    let cut = c.truncate.ensures.items in
    let front : c.truncate.new.self.items ≡ take c.in_ok-size.size c.publish.new.buffer = search (cut, whole) in
    let e = c.in_ok-size.ensures in
    ap Ok front
    ∙ (published_by (plan_of c.args.plan.now) c.deref_mut.result.now c.publish.new.buffer c.args.reading (Ok c.in_ok-size.size) e.answer e.after
    ∙ ap (λ b. published (record { plan = plan_of c.args.plan.now; buffer = b }) c.args.reading) c.deref_mut.ensures.value)

pub returns-in_err-size : goal.returns-in_err-size
returns-in_err-size c =
    let e = c.in_err-size.ensures in
    let passed : c.from_residual.result ≡ Err c.in_err-size.field-0.0 = search rules in
    ap bytes_by passed
    ∙ (published_by (plan_of c.args.plan.now) c.deref_mut.result.now c.publish.new.buffer c.args.reading (Err c.in_err-size.field-0.0) e.answer e.after
    ∙ ap (λ b. published (record { plan = plan_of c.args.plan.now; buffer = b }) c.args.reading) c.deref_mut.ensures.value)
