-- What a check finds of the frames that wait at a feed.
use Rattle.std.specs.Prelude.{◌≡◌, ◌==◌, ℕ, Bool, List, ◌∷◌}
use Rattle.std.specs.List.{list_all}
use Rattle.feed.specs.Feeds.{Waiting}

-- the first frame that waits came in by this line and has these bytes
abbrev pub IsNext : List Waiting → ℕ → List ℕ → Type 0
IsNext ws port frame = (more : List Waiting) × (ws ≡ record { port = port; bytes = frame } ∷ more)

-- all bytes are those that a buffer is filled with
abbrev pub is_filled : List ℕ → Bool
is_filled = list_all (λ b. b == 85)
