use Rattle.std.proofs.Common.{◌≡◌, length, drop, fold}
use Rattle.crc.specs.CheckWord.{check_word_of, taken}
use Rattle.crc.specs.Words.{value_of}
use Rattle.crc.proofs.check_word.Given as goal

-- the bytes behind, taken in next, give the check word of all
abbrev pub invariant-loop-a : goal.invariant-loop-a
invariant-loop-a l = fold taken (taken (value_of l.pending.register) l.pending.byte) l.rest ≡ check_word_of l.fn.bytes

abbrev pub decreases-loop-a : goal.decreases-loop-a
decreases-loop-a l = length l.rest

abbrev pub invariant-loop-byte : goal.invariant-loop-byte
invariant-loop-byte l = fold taken (taken (value_of l.pending.register) l.pending.byte) (drop l.byte-index l.byte-items) ≡ check_word_of l.fn.bytes
