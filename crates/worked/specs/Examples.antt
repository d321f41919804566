-- The worked examples, all together.
use Rattle.std.specs.Prelude.{◌≡◌, ℕ, Some, None, Option}
use Rattle.crc.specs.CheckWord.{Example}
use Rattle.layout.specs.Laws.{WorkedLengths}
use Rattle.slots.specs.Laws.{WorkedSlots}
use Rattle.policy.specs.declared.relative.Relative.{Relative}
use Rattle.policy.specs.contracts.relative.RelativePolicy.TheImpl as relative

-- when the slot with the stamp 1,000,000 closes under a policy
abbrev pub closes : Relative → Option ℕ → ℕ
closes p arrival = (relative.ghosts).closing p 1000000 arrival

-- the check word of the digits 1 to 9; the lengths of the standard's worked configuration and data frame; which counts lie on a slot at 30 frames a second, the first slot of a reading, and the longest wait at 50; and closings after 20 ms
pub record Examples (p : Relative) : Type 0 where
  pub check : Example 0x29b1
  pub lengths : WorkedLengths
  pub slots : WorkedSlots
  pub early : closes p (Some 990000) ≡ 1020000
  pub late : closes p (Some 1010000) ≡ 1030000
  pub latest : closes p (Some 1140000) ≡ 1150000
  pub none : closes p None ≡ 1150000
