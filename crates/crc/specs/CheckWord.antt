-- CRC-CCITT, bit by bit: polynomial 1021h, start FFFFh, the highest bit of each byte first, no final inversion.
use Rattle.std.specs.Prelude.{◌≡◌, ℕ, ◌*◌, ◌/◌, ◌%◌, List, codes, fold, bit_xor}

-- one shift of the 16-bit register to the left; where a 1 leaves it, the polynomial comes in
unfoldable pub shift : ℕ → ℕ
shift c = bit_xor (c * 2 % 65536) (c / 32768 % 2 * 0x1021)

-- the register after one shift for each bit of a byte
abbrev pub eight_shifts : ℕ → ℕ
eight_shifts c = shift (shift (shift (shift (shift (shift (shift (shift c)))))))

-- a byte is taken in at the top, and shifted through
unfoldable pub taken : ℕ → ℕ → ℕ
taken c b = eight_shifts (bit_xor c (b * 256))

-- the check word over some bytes, taken in from the first to the last
abbrev pub check_word_of : List ℕ → ℕ
check_word_of bs = fold taken 0xffff bs

-- what a stored table of 256 words holds for each byte
unfoldable pub table_rule : ℕ → ℕ
table_rule i = eight_shifts (i * 256)

-- a word is the check word of the digits 1 to 9
abbrev pub Example : ℕ → Type 0
Example r = check_word_of (codes "123456789") ≡ r
