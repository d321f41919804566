-- What a next that gave a frame says: the frame fits, and one frame fewer waits.
use Rattle.std.proofs.Common.{◌≡◌, ℕ, ◌<◌, ◌≤◌, List, [], ◌∷◌, length, Ok, ap, ◌∙◌, subst, arith}
use Rattle.feed.specs.declared.feed.Taken.{Taken}
use Rattle.feed.specs.Feeds.{Next, Behaviour, rest, AllCarried, Lawful}
use Rattle.feed.specs.Calls.{next_said, next_left}
use Rattle.feed.proofs.Nexts.{came}

module _ (m : Behaviour) (b : List ℕ) (t : Taken) (lawful : Lawful m) (said : Ok t ≡ next_said (m []) b) where
  pub taken-fits : t.len ≤ 1040
  taken-fits =
      let c = came (m []) b t said in
      let a = subst AllCarried c.waited (lawful.carried []) in
      let few : length c.first.bytes ≤ 1040 = a.0.few in
      let e = ap (λ (x : Taken). x.len) c.told in omega (arith, e)

  pub fewer_wait : (m' : Behaviour) → m' ≡ next_left m b → length (m' []) < length (m [])
  fewer_wait m' left =
      let c = came (m []) b t said in
      let room = c.room in
      let waited = c.waited in
      let now-waits : m' [] ≡ m (Next ∷ []) = ap (λ (n : Behaviour). n []) left ∙ rw (room, waited) in
      let e = ap length (now-waits ∙ (lawful.nexted [] ∙ ap rest waited)) in let d = ap length waited in omega (arith, e, d)
