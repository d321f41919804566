use Rattle.std.proofs.Common.{rules, string_bytes}
use Rattle.listing.proofs.WaitsLemmas.{took-number}
use Rattle.listing.proofs.waits.next_wait.Goals as goal

pub returns-clause-took : goal.returns-clause-took
returns-clause-took c = took-number {word = c.in_ok-word.word} string_bytes c.map_err.result (search rules) (search rules)
