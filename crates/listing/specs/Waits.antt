-- The arguments that set waits.
use Rattle.std.specs.Prelude.{◌≡◌, ℕ, Bool, ◌||◌, List, ◌∷◌, codes, Option, Some, None, Ok, bytes_eq}
use Rattle.std.specs.Str.Parse.{ParsesUnsigned}
use Rattle.policy.specs.declared.absolute.Absolute.{Absolute}
use Rattle.policy.specs.declared.relative.Relative.{Relative}
use Rattle.policy.specs.Policies.{capped}
use Rattle.choice.specs.declared.chosen.Chosen.{Chosen}
use Rattle.choice.specs.declared.chosen.Chosen.TheVariants.{One, Other}

-- the word names a wait
abbrev pub names_wait : List ℕ → Bool
names_wait word = bytes_eq word (codes "--wait") || bytes_eq word (codes "--relative")

-- the policy waits after the stamp, and after the first arrival if arrivals count; each wait is capped
pub record IsAbsolute (longest : ℕ) (p : Absolute) : Type 0 where
  pub waits : p.wait ≡ capped longest

-- the policy waits one time after the first arrival, and at most the other after the stamp, each capped
pub record IsRelative (after longest : ℕ) (p : Relative) : Type 0 where
  pub follows : p.after_arrival ≡ capped after
  pub waits : p.wait ≡ capped longest

-- the policy is the one asked for: it counts from first arrivals if a wait after those is given, and from stamps alone if none is
abbrev pub IsPolicyOf : Option ℕ → ℕ → Chosen Absolute Relative → Type 0
IsPolicyOf None longest (One p) = IsAbsolute longest p
IsPolicyOf None longest (Other p) = ⊥
IsPolicyOf (Some after) longest (One p) = ⊥
IsPolicyOf (Some after) longest (Other p) = IsRelative after longest p

-- the first of these texts was taken, and it says this number of microseconds
pub record TookNumber (before after : List (List ℕ)) (n : ℕ) : Type 0 where
  pub text : List ℕ
  pub first : before ≡ text ∷ after
  pub number : ParsesUnsigned {E = ℕ} 64 10 text (Ok n)

-- the same of the wait after a first arrival: it is set now, to the number that was taken
abbrev pub TookWait : List (List ℕ) → List (List ℕ) → Option ℕ → Type 0
TookWait before after None = ⊥
TookWait before after (Some n) = TookNumber before after n
