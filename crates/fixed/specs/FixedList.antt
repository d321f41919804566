-- The items of a fixed list, and one more.
use Rattle.std.specs.Prelude.{ℕ, cond, List, [], ◌∷◌, ◌++◌, length, take, nat_lt}
use Rattle.fixed.specs.declared.list.FixedList.{FixedList}

-- the items that a list holds
abbrev pub items_of : {T : Type 0} {N : ℕ} → FixedList T N → List T
items_of l = take l.count l.items

-- one item more behind fewer than n
abbrev pub pushed : {T : Type 0} → ℕ → T → List T → List T
pushed n x xs = cond (nat_lt (length xs) n) (xs ++ x ∷ []) xs
