-- What is asked of two policies, asked of the one that was chosen.
use Rattle.choice.specs.declared.chosen.Chosen.{Chosen}
use Rattle.choice.specs.declared.chosen.Chosen.TheVariants.{One, Other}

-- what the chosen one says
abbrev pub by_choice : {A B X : Type 0} → (A → X) → (B → X) → Chosen A B → X
by_choice one other (One p) = one p
by_choice one other (Other p) = other p

-- what holds of each holds of the chosen one
pub by_each : {A B : Type 0} (P : Chosen A B → Type 0) → ((p : A) → P (One p)) → ((p : B) → P (Other p)) → (p : Chosen A B) → P p
by_each P one other (One p) = one p
by_each P one other (Other p) = other p
