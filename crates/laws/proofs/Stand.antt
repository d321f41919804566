-- The law over runs, from what is proved of the machine's journals.
use Rattle.std.proofs.Common.{◌≡◌, ℕ, ◌<◌, max, List, [], ◌∷◌, sym, refl, ap, ◌∙◌, subst}
use Rattle.laws.specs.Setting.{Setting}
use Rattle.feed.specs.Feeds.{Behaviour}
use Rattle.laws.specs.Journal.{Past, start, ◌▹◌, ◌≼◌, Call, Told, Wrote, Journal, latest, accepted, frame_at, tally, seen, ops}
use Rattle.laws.specs.Answers.{Right, Counts}
use Rattle.laws.specs.Machine.{state, journal, onto, answers}
use Rattle.laws.specs.Bytes.{Layout, Lays, part}
use Rattle.laws.specs.Laws.{Orderly, Order, Account, Agreement, PromptHost, Gave, Runs, Keeps}
use Rattle.laws.proofs.Steps.{run}
use Rattle.laws.proofs.Order.{closed-below, orderly, kept, frame-kept, bounded, reason}
use Rattle.laws.proofs.Account.{books, sums, told_is, within-length}
use Rattle.laws.proofs.Agree.{in_time, from-seen, given}
use Rattle.laws.proofs.Bytes.{part_is}
use Rattle.laws.proofs.Prompt.{prompt}
use Rattle.laws.proofs.Due.{right}
use Rattle.laws.proofs.Decided.{every}

-- what holds of the machine's journals holds of the right ones
for_all : (g : Setting) (B : Behaviour) (P : Journal → Type 0) → ((cs : Past Call) → P (journal g B cs)) → (J : Journal) → Right g B J → P J
for_all g B P h J r = let e = every g B r in subst P (sym e.1) (h e.0)

order : (g : Setting) → Order g
order g = record {
  orderly = λ B. for_all g B (λ J. (K : Journal) (len n : ℕ) (x : List ℕ) → K ▹ Wrote len n x ≼ J → Orderly g K n x) (orderly g B);
  kept = λ B J r K n p l c. let e = every g B r in kept g B n p l c e.0 e.1;
  framed = λ B J r K n l c. let e = every g B r in frame-kept g B n l c e.0 e.1;
  bound = bounded g;
}

told-right : (g : Setting) (B : Behaviour) (cs : Past Call) (K : Journal) (a m : ℕ) (t : ℕ → ℕ) → K ▹ Told a m t ≼ journal g B cs → Counts K a m t
told-right g B cs K a m t h =
    let r = reason g B cs K (Told a m t) h in
    subst (λ (z : Journal). Counts z a m t) (sym r.same) (told_is g B (journal g B r.before) a m t (state g B r.before) (run g B r.before) (books g B r.before) r.answer)

account : (g : Setting) → Account g
account g = record {
  sums = λ B lw. for_all g B _ (λ cs. sums g B cs lw);
  grows = λ B lw J r len. within-length (lw.ticked (ops g J) (max r (latest g J)));
  told = λ B. for_all g B (λ J. (K : Journal) (a m : ℕ) (t : ℕ → ℕ) → K ▹ Told a m t ≼ J → Counts K a m t) (told-right g B);
}

-- a port's bytes of a frame that was written are the block of what was accepted of the port
part_of : (g : Setting) (L : Layout) → Lays L g → (B : Behaviour) (J : Journal) → Right g B J → (q n : ℕ) (x : List ℕ) → q < g.ports → Gave J n x → part L q x ≡ L.block q (accepted g J q n)
part_of g L lays B J r q n x planned w =
    ap (part L q) (for_all g B (λ J. Gave J n x → x ≡ frame_at g J n) (λ cs. given g B cs n x) J r w ∙ lays n (λ p. accepted g J p n))
    ∙ part_is L g.ports n (λ p. accepted g J p n) q planned

agreement : (g : Setting) → Agreement g
agreement g B C J K r s p ig same z y = record {
  frames = alike;
  bytes = λ L lays q n u v planned ne wu wv. part_of g L lays B J r q n u planned wu ∙ ap (L.block q) (alike q n ne) ∙ sym (part_of g L lays C K s q n v planned wv);
}
  where
    alike : (q n : ℕ) → (q ≡ p → ⊥) → accepted g J q n ≡ accepted g K q n
    alike q n ne =
        let never : tally K 22 ≡ 0 = cc in
        for_all g B (λ J. tally J 22 ≡ 0 → accepted g J q n ≡ in_time g q n (seen g q J)) (λ cs. from-seen g ig B cs q n) J r z
        ∙ ap (in_time g q n) (same q ne)
        ∙ sym (for_all g C (λ J. tally J 22 ≡ 0 → accepted g J q n ≡ in_time g q n (seen g q J)) (λ cs. from-seen g ig C cs q n) K s never)

pub runs : (g : Setting) → Runs g
runs g = record { order = order g; account = account g; agreement = agreement g; prompt = λ B. for_all g B (λ J. PromptHost g J → tally J 22 ≡ 0) (prompt g B) }

-- the answers of a list of calls, one after another, are the machine's journal
listed : (g : Setting) (B : Behaviour) (bs : Past Call) (cs : List Call) → onto (journal g B bs) (answers g (state g B bs) cs) ≡ journal g B (onto bs cs)
listed g B bs [] = refl
listed g B bs (c ∷ cs) = listed g B (bs ▹ c) cs

pub keeps : (g : Setting) → Keeps g
keeps g = record { right = right g; every = λ B J r. every g B r; listed = λ B cs. subst (Right g B) (sym (listed g B start cs)) (right g B (onto start cs)); feed = λ B cs o. (books g B cs).feed o; front = λ B cs n a. (λ l. (run g B cs).base.closes n a l, λ c. closed-below g B c cs refl) }
