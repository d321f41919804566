use Rattle.std.proofs.Common.{◌≡◌, ◌+◌, List, get_or, take, rules, sym, ◌∙◌, ap, subst}
use Rattle.std.proofs.lemmas.List.{take_all}
use Rattle.laws.specs.Machine.{onto}
use Rattle.concentrator.specs.Wholes.{Whole}
use Rattle.runs.specs.declared.call.Call.{Call}
use Rattle.runs.specs.declared.call.Call.TheVariants.{Tick}
use Rattle.runs.specs.Entries.{EntryOf, all_due, left_by}
use Rattle.runs.specs.Events.{events_of}
use Rattle.runs.specs.Given.{requests_of, entries_of, standing}
use Rattle.runs.specs.Standing.{Reached}
use Rattle.runs.proofs.Followed.{kept_by}
use Rattle.runs.proofs.Listed.{left-next, answers-next, runs-on, left-by, stopped}
use Rattle.runs.proofs.host.Host.run.Goals as goal

pub loop-call-preserved : goal.loop-call-preserved
loop-call-preserved g c =
    let w = standing c.args.self.now in
    let cs = c.args.calls.now in
    let k = c.loop-call.call-index in
    let i = c.loop-call.invariant in
    let x = get_or cs k (Tick 0 0) in
    record {
      answers = answers-next w cs k x (search rules) (search rules) (standing c.loop-call.self) c.loop-call.journal.items c.push.new.self.items c.in_ok-entry.entry i.left i.answers (search rules) (search rules);
      left = left-next w cs k x (search rules) (search rules) (standing c.loop-call.self) (standing c.make.new.self) i.left (search rules);
    }

pub returns-clause-goes_on : goal.returns-clause-goes_on
returns-clause-goes_on g c o before r =
    let w = standing c.args.self.now in
    let cs = c.args.calls.now in
    let rs = requests_of cs in
    let i = c.loop-call.invariant in
    let all : take c.loop-call.call-index cs ≡ cs = take_all c.loop-call.call-index cs (search rules) in
    let answers : entries_of c.loop-call.journal ≡ all_due w rs = i.answers ∙ ap (λ (u : List Call). all_due w (requests_of u)) all in
    let left : standing c.loop-call.self ≡ left_by w rs = i.left ∙ ap (λ (u : List Call). left_by w (requests_of u)) all in
    subst (λ (es : List EntryOf). Reached o (onto before (events_of es)) (standing c.loop-call.self)) (sym answers)
    (subst (λ (v : Whole). Reached o (onto before (events_of (all_due w rs))) v) (sym left) (runs-on o before w rs r))

pub returns-clause-law : goal.returns-clause-law
returns-clause-law g c o before r = kept_by o (returns-clause-goes_on g c o before r)

-- where the list ends early
pub returns-in_err-entry-clause-err : goal.returns-in_err-entry-clause-err
returns-in_err-entry-clause-err g c =
    let same : standing c.make.new.self ≡ standing c.loop-call.self = search rules in
    stopped c.from_residual-in_err-entry.result (left-by (standing c.args.self.now) c.args.calls.now (standing c.make.new.self) c.loop-call.call-index (same ∙ c.loop-call.invariant.left))

pub returns-in_err-push-clause-err : goal.returns-in_err-push-clause-err
returns-in_err-push-clause-err g c =
    stopped c.from_residual-in_err-push.result
    (left-by (standing c.args.self.now) c.args.calls.now (standing c.make.new.self) (c.loop-call.call-index + 1)
    (left-next (standing c.args.self.now) c.args.calls.now c.loop-call.call-index (get_or c.args.calls.now c.loop-call.call-index (Tick 0 0)) (search rules) (search rules) (standing c.loop-call.self) (standing c.make.new.self) c.loop-call.invariant.left (search rules)))
