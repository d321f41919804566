use Rattle.std.proofs.Common.{◌≡◌, true, false, Err, length, sym, ap, ◌∙◌, arith}
use Rattle.std.proofs.lemmas.Result.{err_from_is_err_and}
use Rattle.std.specs.Option.{option_map, ok_or}
use Rattle.common.specs.declared.fault.Fault.TheVariants.{Unsound}
use Rattle.capture.specs.Records.{entry_of, entries_of, records_of, sound_behind, split_of}
use Rattle.capture.specs.Laws.{WrittenReadsBack, ReadWasWritten}
use Rattle.capture.proofs.Walk.{all_more, all-cut, all_end, all-shorter, opened, refused}
use Rattle.capture.proofs.Written.{written-reads-back}
use Rattle.capture.proofs.Unread.{read_was_written}
use Rattle.capture.proofs.capture.Capture.open.Goals as goal

laws : WrittenReadsBack × ReadWasWritten
laws = (written-reads-back, read_was_written)

pub returns-in_err-records : goal.returns-in_err-records
unfolding records_of
returns-in_err-records c =
    let a = c.in_err-records.ensures in
    let headless = ap (option_map (λ x. x.now)) (sym a.ok_part) ∙ c.without_header.ensures in
    let told = a.value ∙ ap (λ o. ok_or o Unsound) a.ok_part in
    let unsound : c.in_err-records.field-0.0 ≡ Unsound = cc in
    let p = err_from_is_err_and c.from_residual.result c.from_residual.ensures.1 in
    record { answer = rw (p.1, p.2) (ap Err unsound ∙ ap entries_of headless); laws = laws }

pub returns-in_err-record : goal.returns-in_err-record
returns-in_err-record c =
    let records = c.in_ok-records.records.now in
    let a = c.in_err-record.ensures in
    let cut = ap split_of (sym a.ok_part) ∙ c.split_first.ensures in
    let e = all-cut c.loop-rest.low c.loop-rest.rest.now c.loop-rest-test.ensures cut in
    let i = c.loop-rest.invariant in
    let s : sound_behind (length records) 0 records ≡ false = cc in
    let given = ap (option_map (λ x. x.now)) (sym c.in_ok-records.ensures.ok_part) ∙ c.without_header.ensures in
    let told = a.value ∙ ap (λ o. ok_or o Unsound) a.ok_part in
    let unsound : c.in_err-record.field-0.0 ≡ Unsound = cc in
    let p = err_from_is_err_and c.from_residual-in_err-record.result c.from_residual-in_err-record.ensures.1 in
    record { answer = rw (p.1, p.2) (ap Err unsound ∙ refused c.args.bytes.now records given s); laws = laws }

pub loop-rest-smaller : goal.loop-rest-smaller
loop-rest-smaller c =
    let a = c.in_ok-record in
    let given = ap split_of (sym a.ensures.ok_part) ∙ c.split_first.ensures in
    let l = all-shorter c.loop-rest.low c.loop-rest.rest.now (entry_of a.record) a.behind.now given in omega (arith, l)

pub loop-rest-preserved : goal.loop-rest-preserved
loop-rest-preserved c =
    let a = c.in_ok-record in
    let given = ap split_of (sym a.ensures.ok_part) ∙ c.split_first.ensures in
    let e = all_more c.loop-rest.low c.loop-rest.rest.now c.loop-rest-test.ensures (entry_of a.record) a.behind.now given in
    let i = c.loop-rest.invariant in cc

pub returns : goal.returns
returns c =
    let records = c.in_ok-records.records.now in
    let e = all_end c.loop-rest.low c.loop-rest.rest.now c.loop-rest-test.ensures in
    let i = c.loop-rest.invariant in
    let s : sound_behind (length records) 0 records ≡ true = cc in
    let given = ap (option_map (λ x. x.now)) (sym c.in_ok-records.ensures.ok_part) ∙ c.without_header.ensures in
    let r = opened c.args.bytes.now records given s in record { answer = cc; laws = laws }
