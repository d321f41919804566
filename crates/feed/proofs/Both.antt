-- A joined feed has what its two parts have.
use Rattle.std.proofs.Common.{◌≡◌, ℕ, List, [], ◌∷◌, refl, ap}
use Rattle.feed.specs.Feeds.{Waiting, Op, Tick, Next, Behaviour, after}
use Rattle.feed.specs.Sides.{Sides, BothWait}

-- a next goes to one of the two
by-pick : (a b : Behaviour) (ops : List Op) (v : List Waiting) → a [] ≡ v → Sides (after a Next) b ops → Sides a (after b Next) ops → Sides a b (Next ∷ ops)
by-pick a b ops [] e p q =
    record {
      first = q.first;
      second = Next ∷ q.second;
      waits = rw e q.waits;
      first_ticks = q.first_ticks;
      second_ticks = q.second_ticks;
    }
by-pick a b ops (x ∷ xs) e p q =
    record {
      first = Next ∷ p.first;
      second = p.second;
      waits = rw e p.waits;
      first_ticks = p.first_ticks;
      second_ticks = p.second_ticks;
    }

pub both_wait : BothWait
both_wait a b [] = record { first = []; second = []; waits = refl; first_ticks = refl; second_ticks = refl }
both_wait a b (Tick r ∷ ops) =
    let s = both_wait (after a (Tick r)) (after b (Tick r)) ops in
    record {
      first = Tick r ∷ s.first;
      second = Tick r ∷ s.second;
      waits = cc;
      first_ticks = ap (λ (rs : List ℕ). r ∷ rs) s.first_ticks;
      second_ticks = ap (λ (rs : List ℕ). r ∷ rs) s.second_ticks;
    }
both_wait a b (Next ∷ ops) = by-pick a b ops (a []) refl (both_wait (after a Next) b ops) (both_wait a (after b Next) ops)
