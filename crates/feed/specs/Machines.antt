-- Feeds that are machines: a state, what an operation makes of it, and what waits in it.
use Rattle.std.specs.Prelude.{◌≡◌, ℕ, List, [], ◌∷◌, ◌++◌}
use Rattle.std.proofs.Common.{ap}
use Rattle.feed.specs.Feeds.{Waiting, Op, Tick, Next, Behaviour, rest, Within, AllCarried, Lawful}

-- the state after a sequence of operations
abbrev pub run : {S : Type 0} → (S → Op → S) → S → List Op → S
run step s [] = s
run step s (o ∷ ops) = run step (step s o) ops

-- what waits at a machine that is in the state s, after each sequence of operations from there
abbrev pub behaviour : {S : Type 0} → (S → Op → S) → (S → List Waiting) → S → Behaviour
behaviour step waits s = λ ops. waits (run step s ops)

-- what the steps of a machine have to meet, in the states that its calls can reach, for it to be lawful
pub record Steps {S : Type 0} (step : S → Op → S) (waits : S → List Waiting) (Reached : S → Type 0) : Type 0 where
  pub stays : (s : S) (o : Op) → Reached s → Reached (step s o)
  pub ticked : (s : S) (r : ℕ) → Reached s → Within (waits s) (waits (step s (Tick r)))
  pub nexted : (s : S) → Reached s → waits (step s Next) ≡ rest (waits s)
  pub idle : (s : S) → Reached s → waits s ≡ [] → step s Next ≡ s
  pub carried : (s : S) → Reached s → AllCarried (waits s)

module _ {S : Type 0} (step : S → Op → S) (waits : S → List Waiting) (Reached : S → Type 0) (f : Steps step waits Reached) where
  -- a tick keeps all that waited, after any operations
  ticked : (s : S) → Reached s → (ops : List Op) (r : ℕ) → Within (behaviour step waits s ops) (behaviour step waits s (ops ++ (Tick r ∷ [])))
  ticked s h [] r = f.ticked s r h
  ticked s h (o ∷ ops) r = ticked (step s o) (f.stays s o h) ops r

  -- a next takes the first frame, after any operations
  nexted : (s : S) → Reached s → (ops : List Op) → behaviour step waits s (ops ++ (Next ∷ [])) ≡ rest (behaviour step waits s ops)
  nexted s h [] = f.nexted s h
  nexted s h (o ∷ ops) = nexted (step s o) (f.stays s o h) ops

  -- a next with nothing waiting changes nothing, after any operations
  idle : (s : S) → Reached s → (ops more : List Op) → behaviour step waits s ops ≡ [] → behaviour step waits s (ops ++ (Next ∷ more)) ≡ behaviour step waits s (ops ++ more)
  idle s h [] more e = ap (λ t. waits (run step t more)) (f.idle s h e)
  idle s h (o ∷ ops) more e = idle (step s o) (f.stays s o h) ops more e

  -- all that waits can be carried, after any operations
  carried : (s : S) → Reached s → (ops : List Op) → AllCarried (behaviour step waits s ops)
  carried s h [] = f.carried s h
  carried s h (o ∷ ops) = carried (step s o) (f.stays s o h) ops

  -- a machine that keeps its facts behaves as a feed may
  pub machine_lawful : (s : S) → Reached s → Lawful (behaviour step waits s)
  machine_lawful s h = record { ticked = ticked s h; nexted = nexted s h; idle = idle s h; carried = carried s h }
