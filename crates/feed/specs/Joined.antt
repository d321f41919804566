-- Two feeds joined: what waits at the first, then what waits at the second.
use Rattle.std.specs.Prelude.{◌≡◌, ℕ, List, [], ◌∷◌, ◌++◌, refl}
use Rattle.std.proofs.Common.{◌∙◌, ap}
use Rattle.std.proofs.Math.Path.{fun_ext}
use Rattle.feed.specs.Feeds.{Waiting, Op, Tick, Next, Behaviour, after, rest, Within, AllCarried, Lawful, Meaning}
use Rattle.feed.specs.Calls.{pick}
use Rattle.feed.specs.Lists.{within-append, carried-append, after-lawful}

-- a tick goes to both, and a next to the first that has something waiting
abbrev pub joined : Behaviour → Behaviour → Behaviour
joined a b [] = a [] ++ b []
joined a b (Tick r ∷ ops) = joined (after a (Tick r)) (after b (Tick r)) ops
joined a b (Next ∷ ops) = pick (a []) (joined (after a Next) b ops) (joined a (after b Next) ops)

-- a tick of two joined feeds keeps all that waited, in its order
ticked : (a b : Behaviour) → Lawful a → Lawful b → (ops : List Op) (r : ℕ) → Within (joined a b ops) (joined a b (ops ++ (Tick r ∷ [])))
ticked a b la lb [] r = within-append (la.ticked [] r) (lb.ticked [] r)
ticked a b la lb (Tick q ∷ ops) r =
    ticked (after a (Tick q)) (after b (Tick q)) (after-lawful (Tick q) la) (after-lawful (Tick q) lb) ops r
ticked a b la lb (Next ∷ ops) r =
    let more = ops ++ (Tick r ∷ []) in
    elim (a []) as (λ v. Within (pick v (joined (after a Next) b ops) (joined a (after b Next) ops)) (pick v (joined (after a Next) b more) (joined a (after b Next) more))) [
      | [] ↦ ticked a (after b Next) la (after-lawful Next lb) ops r
      | x ∷ xs ↦ ticked (after a Next) b (after-lawful Next la) lb ops r
    ]

-- the first of both lists is the first's, if there is one
first_gone : (u u' v v' : List Waiting) → u' ≡ rest u → v' ≡ rest v → pick u (u' ++ v) (u ++ v') ≡ rest (u ++ v)
first_gone [] u' v v' p q = q
first_gone (x ∷ xs) u' v v' p q = ap (λ z. z ++ v) p

-- a next of two joined feeds takes the first frame
nexted : (a b : Behaviour) → Lawful a → Lawful b → (ops : List Op) → joined a b (ops ++ (Next ∷ [])) ≡ rest (joined a b ops)
nexted a b la lb [] = first_gone (a []) (a (Next ∷ [])) (b []) (b (Next ∷ [])) (la.nexted []) (lb.nexted [])
nexted a b la lb (Tick q ∷ ops) =
    nexted (after a (Tick q)) (after b (Tick q)) (after-lawful (Tick q) la) (after-lawful (Tick q) lb) ops
nexted a b la lb (Next ∷ ops) =
    let more = ops ++ (Next ∷ []) in
    elim (a []) as (λ v. pick v (joined (after a Next) b more) (joined a (after b Next) more) ≡ rest (pick v (joined (after a Next) b ops) (joined a (after b Next) ops))) [
      | [] ↦ nexted a (after b Next) la (after-lawful Next lb) ops
      | x ∷ xs ↦ nexted (after a Next) b (after-lawful Next la) lb ops
    ]

-- a next at a feed with nothing waiting leaves it as it was
pub idle-same : (m : Behaviour) → Lawful m → m [] ≡ [] → after m Next ≡ m
idle-same m l e = fun_ext (λ ops. l.idle [] ops e)

-- if two lists together are empty, each is
both-none : (u v : List Waiting) → u ++ v ≡ [] → (u ≡ []) × (v ≡ [])
both-none [] v e = (refl, e)
both-none (x ∷ xs) v e = (cc, cc)

-- a next with nothing waiting at either of two joined feeds changes nothing
idle_now : (a b : Behaviour) → Lawful b → (more : List Op) → a [] ≡ [] → b [] ≡ [] → joined a b (Next ∷ more) ≡ joined a b more
idle_now a b lb more p q =
    ap (λ (v : List Waiting). pick v (joined (after a Next) b more) (joined a (after b Next) more)) p
    ∙ ap (λ (m : Behaviour). joined a m more) (idle-same b lb q)

-- nor does it after any operations
idle : (a b : Behaviour) → Lawful a → Lawful b → (ops more : List Op) → joined a b ops ≡ [] → joined a b (ops ++ (Next ∷ more)) ≡ joined a b (ops ++ more)
idle a b la lb [] more e = let h = both-none (a []) (b []) e in idle_now a b lb more h.0 h.1
idle a b la lb (Tick q ∷ ops) more e =
    idle (after a (Tick q)) (after b (Tick q)) (after-lawful (Tick q) la) (after-lawful (Tick q) lb) ops more e
idle a b la lb (Next ∷ ops) more e =
    by-pick (a []) e (λ h. idle a (after b Next) la (after-lawful Next lb) ops more h)
    (λ h. idle (after a Next) b (after-lawful Next la) lb ops more h)
  where
    by-pick : (v : List Waiting) → pick v (joined (after a Next) b ops) (joined a (after b Next) ops) ≡ [] → (joined a (after b Next) ops ≡ [] → joined a (after b Next) (ops ++ (Next ∷ more)) ≡ joined a (after b Next) (ops ++ more)) → (joined (after a Next) b ops ≡ [] → joined (after a Next) b (ops ++ (Next ∷ more)) ≡ joined (after a Next) b (ops ++ more)) → pick v (joined (after a Next) b (ops ++ (Next ∷ more))) (joined a (after b Next) (ops ++ (Next ∷ more))) ≡ pick v (joined (after a Next) b (ops ++ more)) (joined a (after b Next) (ops ++ more))
    by-pick [] h none some = none h
    by-pick (x ∷ xs) h none some = some h

-- what waits at two joined feeds a feed can carry, after any operations
carried : (a b : Behaviour) → Lawful a → Lawful b → (ops : List Op) → AllCarried (joined a b ops)
carried a b la lb [] = carried-append (a []) (b []) (la.carried []) (lb.carried [])
carried a b la lb (Tick q ∷ ops) =
    carried (after a (Tick q)) (after b (Tick q)) (after-lawful (Tick q) la) (after-lawful (Tick q) lb) ops
carried a b la lb (Next ∷ ops) =
    elim (a []) as (λ v. AllCarried (pick v (joined (after a Next) b ops) (joined a (after b Next) ops))) [
      | [] ↦ carried a (after b Next) la (after-lawful Next lb) ops
      | x ∷ xs ↦ carried (after a Next) b (after-lawful Next la) lb ops
    ]

-- two lawful feeds joined are a lawful feed
pub joined-lawful : (a b : Behaviour) → Lawful a → Lawful b → Lawful (joined a b)
joined-lawful a b la lb =
    record { ticked = ticked a b la lb; nexted = nexted a b la lb; idle = idle a b la lb; carried = carried a b la lb }

-- what two feeds mean once they are joined
abbrev pub both : Meaning → Meaning → Meaning
both a b =
    record { waits = joined a.waits b.waits; lawful = joined-lawful a.waits b.waits a.lawful b.lawful }
