-- The check word has 16 bits, whatever the list holds.
use Rattle.std.proofs.Common.{ℕ, ◌*◌, ◌/◌, ◌%◌, ◌^◌, ◌<◌, List, [], ◌∷◌, fold, arith}
use lib.Bits.{xor_lt}
use Rattle.crc.specs.CheckWord.{shift, taken, check_word_of}

shift_lt : (c : ℕ) → shift c < 2 ^ 16
unfolding shift
shift_lt c = xor_lt 16 (c * 2 % 65536) (c / 32768 % 2 * 0x1021) (omega arith) (omega arith)

taken_lt : (c b : ℕ) → taken c b < 2 ^ 16
unfolding taken
taken_lt c b = shift_lt _

from_lt : (c : ℕ) (bs : List ℕ) → c < 2 ^ 16 → fold taken c bs < 2 ^ 16
from_lt c [] h = h
from_lt c (b ∷ bs) h = from_lt (taken c b) bs (taken_lt c b)

pub check_word_lt : (bs : List ℕ) → check_word_of bs < 2 ^ 16
check_word_lt bs = from_lt 0xffff bs (omega arith)
