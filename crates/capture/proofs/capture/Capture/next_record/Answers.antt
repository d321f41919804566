use Rattle.capture.proofs.Walk.{come-more, come-none}
use Rattle.std.proofs.Common.{rules}
use Rattle.capture.proofs.capture.Capture.next_record.Goals as goal

pub returns-in_err-record : goal.returns-in_err-record
returns-in_err-record c = search (rules, come-none)

pub returns : goal.returns
returns c = search (rules, come-more)
