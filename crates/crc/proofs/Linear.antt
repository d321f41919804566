-- The register's shifts are linear in the bits that do not reach its top, so a byte can be taken in by a table.
use Rattle.std.proofs.Common.{◌≡◌, ℕ, ◌+◌, ◌*◌, ◌/◌, ◌%◌, ◌^◌, ◌<◌, sym, ap, ◌∙◌, arith, pow_pos}
use lib.Bits.{bit_xor, xor_mod, xor_shr, xor_block, xor_assoc, xor_comm, xor_zero_r, xor_shifted}
use Rattle.crc.specs.CheckWord.{shift, eight_shifts, taken, table_rule}

-- a factor 2 ^ k goes through
xor_scaled : (k x y : ℕ) → bit_xor x y * 2 ^ k ≡ bit_xor (x * 2 ^ k) (y * 2 ^ k)
xor_scaled k x y =
    let none : 0 < 2 ^ k = pow_pos k in
    let e = xor_block k x y 0 0 none none in
    let p : x * 2 ^ k + 0 ≡ x * 2 ^ k = omega arith in
    let q : y * 2 ^ k + 0 ≡ y * 2 ^ k = omega arith in
    let z : bit_xor x y * 2 ^ k + bit_xor 0 0 ≡ bit_xor x y * 2 ^ k = omega arith in
    sym z ∙ (sym e ∙ (ap (λ u. bit_xor u (y * 2 ^ k + 0)) p ∙ ap (λ u. bit_xor (x * 2 ^ k) u) q))

-- one shift of a sum with bits below the top
shift-low : (x y : ℕ) → y < 2 ^ 15 → shift (bit_xor x y) ≡ bit_xor (shift x) (y * 2)
unfolding shift
shift-low x y h =
    let gone : y / 2 ^ 15 ≡ 0 = omega arith in
    let top : bit_xor x y / 32768 ≡ x / 32768 = xor_shr x y 15 ∙ (ap (λ u. bit_xor (x / 2 ^ 15) u) gone ∙ xor_zero_r (x / 2 ^ 15)) in
    let kept : y * 2 % 2 ^ 16 ≡ y * 2 = omega arith in
    let low : bit_xor x y * 2 % 65536 ≡ bit_xor (x * 2 % 65536) (y * 2) =
    ap (λ u. u % 65536) (xor_scaled 1 x y) ∙ (xor_mod (x * 2) (y * 2) 16 ∙ ap (λ u. bit_xor (x * 2 % 2 ^ 16) u) kept) in
    let a : ℕ = x * 2 % 65536 in
    let p : ℕ = x / 32768 % 2 * 0x1021 in
    ap (λ u. bit_xor u (bit_xor x y / 32768 % 2 * 0x1021)) low
    ∙ (ap (λ u. bit_xor (bit_xor a (y * 2)) (u % 2 * 0x1021)) top
    ∙ (xor_assoc a (y * 2) p ∙ (ap (λ u. bit_xor a u) (xor_comm (y * 2) p) ∙ sym (xor_assoc a p (y * 2)))))

-- one shift more
more : (x z y : ℕ) → x ≡ bit_xor z y → y < 2 ^ 15 → shift x ≡ bit_xor (shift z) (y * 2)
more x z y e h = ap shift e ∙ shift-low z y h

shifts_low : (x y : ℕ) → y < 256 → eight_shifts (bit_xor x y) ≡ bit_xor (eight_shifts x) (y * 256)
shifts_low x y h =
    let z : y * 2 * 2 * 2 * 2 * 2 * 2 * 2 * 2 ≡ y * 256 = omega arith in
    let one : shift (bit_xor x y) ≡ bit_xor (shift x) (y * 2) = shift-low x y (omega arith) in
    let four = more _ _ _ (more _ _ _ (more _ _ _ one (omega arith)) (omega arith)) (omega arith) in
    let eight = more _ _ _ (more _ _ _ (more _ _ _ (more _ _ _ four (omega arith)) (omega arith)) (omega arith)) (omega arith) in
    eight ∙ ap (λ u. bit_xor (eight_shifts x) u) z

-- a byte that comes in at the top meets the high byte alone
split : (c b : ℕ) → bit_xor c (b * 256) ≡ bit_xor (bit_xor (c / 256) b * 256) (c % 256)
split c b =
    let hi : ℕ = c / 256 * 256 in
    let lo : ℕ = c % 256 in
    let e : c ≡ c / 256 * 2 ^ 8 + lo = omega arith in
    let s : c ≡ bit_xor hi lo = e ∙ sym (xor_shifted (c / 256) 8 lo (omega arith)) in
    ap (λ u. bit_xor u (b * 256)) s
    ∙ (xor_assoc hi lo (b * 256) ∙ (ap (λ u. bit_xor hi u) (xor_comm lo (b * 256))
    ∙ (sym (xor_assoc hi (b * 256) lo) ∙ ap (λ u. bit_xor u lo) (sym (xor_scaled 8 (c / 256) b)))))

-- a byte taken in by the table's rule
by_table : (h l b : ℕ) → l < 256 → taken (h * 256 + l) b ≡ bit_xor (l * 256) (table_rule (bit_xor h b))
unfolding taken table_rule
by_table h l b k =
    let c : ℕ = h * 256 + l in
    let top : c / 256 ≡ h = omega (arith, k) in
    let low : c % 256 ≡ l = omega (arith, k) in
    ap eight_shifts (split c b) ∙ (shifts_low (bit_xor (c / 256) b * 256) (c % 256) (omega arith)
    ∙ (ap (λ u. bit_xor (table_rule (bit_xor u b)) (c % 256 * 256)) top
    ∙ (ap (λ u. bit_xor (table_rule (bit_xor h b)) (u * 256)) low ∙ xor_comm (table_rule (bit_xor h b)) (l * 256))))

-- the same by the stored word's two bytes
pub by_word : (h l b wh wl : ℕ) → l < 256 → wl < 256 → wh * 256 + wl ≡ table_rule (bit_xor h b) → taken (h * 256 + l) b ≡ bit_xor l wh * 256 + wl
by_word h l b wh wl k kw e =
    let none : l * 256 + 0 ≡ l * 256 = omega arith in
    let met : bit_xor (l * 256 + 0) (wh * 256 + wl) ≡ bit_xor l wh * 256 + bit_xor 0 wl = xor_block 8 l wh 0 wl (omega arith) kw in
    by_table h l b k ∙ (ap (bit_xor (l * 256)) (sym e) ∙ (ap (λ u. bit_xor u (wh * 256 + wl)) (sym none)
    ∙ (met ∙ ap (λ u. bit_xor l wh * 256 + u) (xor_comm 0 wl ∙ xor_zero_r wl))))

-- a byte that is taken in after another: the low byte of the register meets it at once
pub by_table_next : (h l b n : ℕ) → l < 256 → taken (taken (h * 256 + l) b) n ≡ taken (table_rule (bit_xor h b)) (bit_xor l n)
unfolding taken
by_table_next h l b n k =
    let word : ℕ = table_rule (bit_xor h b) in
    let joined : bit_xor (bit_xor (l * 256) word) (n * 256) ≡ bit_xor word (bit_xor l n * 256) =
    ap (λ u. bit_xor u (n * 256)) (xor_comm (l * 256) word)
    ∙ (xor_assoc word (l * 256) (n * 256) ∙ ap (bit_xor word) (sym (xor_scaled 8 l n))) in
    ap (λ u. taken u n) (by_table h l b k) ∙ ap eight_shifts joined
