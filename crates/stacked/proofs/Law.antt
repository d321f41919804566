-- The machine's steps are the concentrator's calls, a tick drains the feed below, and one that is shut stays silent.
use Rattle.std.proofs.Common.{◌≡◌, ℕ, zero, suc, Bool, true, false, cond, ◌⊎◌, List, [], ◌∷◌, length, is_ok, Some, None, Ok, sym, refl, ap, ◌∙◌, subst, inl, inr}
use Rattle.common.specs.declared.fault.Fault.{Fault}
use Rattle.feed.specs.Feeds.{Waiting, Op, Tick, Next, after, rest, Lawful}
use Rattle.feed.specs.Lists.{after-lawful}
use Rattle.engine.specs.Calls as on
use Rattle.concentrator.specs.Wholes.{Whole, moved}
use Rattle.concentrator.specs.Calls as call
use Rattle.stacked.specs.Stacks.{pulled, pulls, drained, step, stacked}
use Rattle.stacked.specs.Laws.{SilentIfShut, PullsByCall, TicksByCall, DrainsAll}
use Rattle.stacked.proofs.Drains.{pulls_same, as_pulled}
use Rattle.stacked.proofs.Ticks.{accepted, refused}

-- ---- shut
shut_step : (w : Whole) (f : Fault) (o : Op) → w.shut ≡ Some f → step w o ≡ w
shut_step w f (Tick r) e = rw e
shut_step w f Next e = rw e

silent_if_shut : SilentIfShut
silent_if_shut port w f e [] = rw e
silent_if_shut port w f e (o ∷ ops) =
    ap (λ (v : Whole). stacked port v ops) (shut_step w f o e) ∙ silent_if_shut port w f e ops

-- ---- the calls
pulls_by_call : PullsByCall
pulls_by_call w buffer room = sym (as_pulled w buffer room)

ticks_by_call : TicksByCall
ticks_by_call w reading scratch room = by (is_ok (call.tick_said w reading scratch)) refl
  where
    by : (b : Bool) → is_ok (call.tick_said w reading scratch) ≡ b → step w (Tick reading) ≡ cond b (drained (call.ticked w reading scratch)) w
    by true e = sym (accepted w reading scratch room e)
    by false e = (refused w reading scratch room e).step

-- ---- drained
abbrev Dry : Whole → Type 0
Dry v = (on.exhausted v.box ≡ true) ⊎ (v.feed [] ≡ [])

none_wait : (ws : List Waiting) → length ws ≡ 0 → ws ≡ []
none_wait [] e = refl
none_wait (w ∷ ws) e = cc

-- one pull, and then those that the rest of the count asks for
dry-by : (n : ℕ) (v : Whole) → Lawful v.feed → v.shut ≡ None → length (v.feed []) ≡ suc n → ((u : Whole) → Lawful u.feed → u.shut ≡ None → length (u.feed []) ≡ n → Dry (pulls n u)) → (x : Bool) (fs : List Waiting) → on.exhausted v.box ≡ x → v.feed [] ≡ fs → Dry (pulls (suc n) v)
dry-by n v l o e more true fs p q = subst Dry (sym (pulls_same (suc n) v (rw (o, p)))) (inl p)
dry-by n v l o e more false [] p q =
    let z : ◌≡◌ {A = ℕ} 0 (suc n) = ap (λ (ws : List Waiting). length ws) (sym q) ∙ e in absurd (cc)
dry-by n v l o e more false (f ∷ fs) p q =
    let u : Whole = moved v (on.received v.closing v.setting v.box f.port f.bytes) (after v.feed Next) in
    let one : pulled v ≡ u = rw (o, p, q) in
    let gone : u.feed [] ≡ fs = l.nexted [] ∙ ap rest q in
    let long : suc (length fs) ≡ suc n = ap (λ (ws : List Waiting). length ws) (sym q) ∙ e in
    let fewer : length fs ≡ n = cc in
    subst Dry (sym (ap (pulls n) one)) (more u (after-lawful Next l) o (ap (λ (ws : List Waiting). length ws) gone ∙ fewer))

dry : (n : ℕ) (v : Whole) → Lawful v.feed → v.shut ≡ None → length (v.feed []) ≡ n → Dry (pulls n v)
dry zero v l o e = inr (none_wait (v.feed []) e)
dry (suc n) v l o e = dry-by n v l o e (λ u k p q. dry n u k p q) (on.exhausted v.box) (v.feed []) refl refl

drains_all : DrainsAll
drains_all w reading latest l o e =
    let v : Whole = call.ticked_by w (Ok latest) in
    let stepped : step w (Tick reading) ≡ drained v = rw (o, e) in
    subst Dry (sym stepped) (dry (length (v.feed [])) v (after-lawful (Tick latest) l) o refl)

pub laws : SilentIfShut × PullsByCall × TicksByCall × DrainsAll
laws = (silent_if_shut, pulls_by_call, ticks_by_call, drains_all)
