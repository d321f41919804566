use Rattle.std.proofs.Common.{rules}
use Rattle.crc.specs.CheckWord.{shift, taken}
use Rattle.crc.proofs.check_word_example.Goals as goal

pub returns : goal.returns
unfolding shift taken
returns c = search rules
