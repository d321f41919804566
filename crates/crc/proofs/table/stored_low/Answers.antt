use Rattle.std.proofs.Common.{rules, ◌%◌}
use Rattle.crc.specs.CheckWord.{shift, table_rule}
use Rattle.crc.proofs.Columns.{rule}
use Rattle.crc.proofs.table.stored_low.Goals as goal

pub returns : goal.returns
unfolding table_rule shift
returns c = search (rules, rule (λ i. table_rule i % 256))
