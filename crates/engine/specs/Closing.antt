-- How slots close: which are ripe, which are complete, and where the front moves.
use Rattle.std.specs.Prelude.{ℕ, zero, suc, ◌+◌, ◌-◌, max, Bool, cond, ◌&&◌, length, is_some, nat_le}
use Rattle.policy.specs.Policies.{held as held_reading, held_by}
use Rattle.cells.specs.Cells.{all_of}
use Rattle.engine.specs.Limits.{earliest}
use Rattle.engine.specs.Boxes.{Setting, Closing, Box, stamp, upto, oldest, within_window}

-- the closing reading of slot n has come
abbrev pub ripe : Closing → Setting → Box → ℕ → Bool
ripe closing g s n = nat_le (closing (held_reading (stamp g n)) (held_by (s.arrived n))) s.latest

-- a frame of every port is in slot n
abbrev pub complete : Setting → Box → ℕ → Bool
complete g s n = within_window (oldest g s) n && all_of (λ p. is_some (s.held n p)) (length g.ports)

-- one past the highest of the numbers below k that pass, else 0
unfoldable pub highest : (ℕ → Bool) → ℕ → ℕ
highest t zero = 0
highest t (suc k) = cond (t k) (suc k) (highest t k)

-- the first number from f on that does not pass, of at most k
unfoldable pub beyond : (ℕ → Bool) → ℕ → ℕ → ℕ
beyond t zero f = f
beyond t (suc k) f = cond (t f) (beyond t k (suc f)) f

-- where the front stands once every slot up to the highest ripe one is closed
abbrev pub past_ripe_of : Closing → Setting → Box → ℕ
past_ripe_of closing g s = max s.front (highest (ripe closing g s) (upto g s.latest))

-- from f on, past each complete slot; no frame is accepted for a slot whose stamp is over 100,000 past the latest reading
abbrev pub past_complete_of : Setting → Box → ℕ → ℕ
past_complete_of g s f = beyond (complete g s) (upto g (s.latest + earliest) - f) f

-- a box with another front
abbrev pub with_front : Box → ℕ → Box
with_front s f =
    record { latest = s.latest; front = f; written = s.written; held = s.held; arrived = s.arrived; out = s.out; tally = s.tally; judged = s.judged }

-- on opening, and after an accepted tick: past the highest ripe slot, and then past each complete one
abbrev pub settled : Closing → Setting → Box → Box
settled closing g s = with_front s (past_complete_of g s (past_ripe_of closing g s))

-- after a frame for slot n, which was the slot's first or not: only the first can have made its slot ripe
abbrev pub ripened_by : Closing → Setting → Box → ℕ → Bool → ℕ
ripened_by closing g s n first = cond (first && ripe closing g s n) (max s.front (n + 1)) s.front

-- after a frame for slot n: past that slot if its first frame made it ripe, and then past each complete one
abbrev pub settled_by : Closing → Setting → Box → ℕ → Bool → Box
settled_by closing g s n first = with_front s (past_complete_of g s (ripened_by closing g s n first))
