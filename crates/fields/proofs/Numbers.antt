-- A number's bytes tell the number.
use Rattle.std.proofs.Common.{◌≡◌, ℕ, ◌+◌, ◌*◌, ◌/◌, ◌%◌, ◌^◌, ◌<◌, arith}

-- its low two bytes
pub low16 : (v : ℕ) → v / 256 % 256 * 256 + v % 256 ≡ v % 65536
low16 v = omega arith

pub number32 : (v : ℕ) → v < 2 ^ 32 → (v / 16777216 % 256 * 256 + v / 65536 % 256) * 65536 + (v / 256 % 256 * 256 + v % 256) ≡ v
number32 v h = omega arith
