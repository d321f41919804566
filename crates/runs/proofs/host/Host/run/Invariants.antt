use Rattle.std.proofs.Common.{◌≡◌, map, take}
use Rattle.runs.specs.Entries.{all_due, left_by}
use Rattle.runs.specs.Given.{entry_of, requests_of, standing}
use Rattle.runs.proofs.host.Host.run.Given as goal

abbrev pub invariant-loop-call : goal.invariant-loop-call
invariant-loop-call g l = record {
  answers : map entry_of l.journal.items ≡ all_due (standing l.fn.self) (requests_of (take l.call-index l.calls));
  left : standing l.self ≡ left_by (standing l.fn.self) (requests_of (take l.call-index l.calls));
}
