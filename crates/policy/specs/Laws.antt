-- Which policies ignore first arrivals, which close no later than others, and worked closings.
use Rattle.std.specs.Prelude.{◌≡◌, ℕ, ◌≤◌, min, Some, None, Option}
use Rattle.policy.specs.declared.absolute.Absolute.{Absolute}
use Rattle.policy.specs.declared.relative.Relative.{Relative}
use Rattle.policy.specs.contracts.absolute.AbsolutePolicy.TheImpl as absolute
use Rattle.policy.specs.contracts.relative.RelativePolicy.TheImpl as relative
use Rattle.policy.specs.Policies.{Ignores}

-- an absolute policy ignores first arrivals
abbrev pub AbsoluteIgnores : Absolute → Type 0
AbsoluteIgnores p = Ignores ((absolute.ghosts).closing p)

-- the sooner of two closings ignores first arrivals if both do
abbrev pub SoonerIgnores : (ℕ → Option ℕ → ℕ) → (ℕ → Option ℕ → ℕ) → Type 0
SoonerIgnores one other = Ignores one → Ignores other → Ignores (λ stamp a. min (one stamp a) (other stamp a))

-- a relative policy closes no later than the absolute one with the same wait
abbrev pub RelativeNoLater : Relative → Type 0
RelativeNoLater p =
    (q : Absolute) (stamp : ℕ) (a : Option ℕ) →
    q.wait ≡ p.wait → (relative.ghosts).closing p stamp a ≤ (absolute.ghosts).closing q stamp a

-- 20 ms after the first arrival, 150 ms at most, and the stamp 1,000,000
abbrev pub WorkedClosings : Relative → Type 0
WorkedClosings p =
    p.after_arrival ≡ 20000 → p.wait ≡ 150000 →
    ((relative.ghosts).closing p 1000000 (Some 990000) ≡ 1020000)
    × ((relative.ghosts).closing p 1000000 (Some 1010000) ≡ 1030000)
    × ((relative.ghosts).closing p 1000000 (Some 1140000) ≡ 1150000)
    × ((relative.ghosts).closing p 1000000 None ≡ 1150000)
