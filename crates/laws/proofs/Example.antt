-- The example's setting and its two runs, computed.
use Rattle.std.proofs.Common.{◌≡◌, ℕ, suc, ◌+◌, ◌*◌, ◌/◌, ◌<◌, List, [], ◌∷◌, sym, refl, subst, inl, inr, arith}
use Rattle.std.proofs.lemmas.Bool.{ne_eqb}
use Rattle.std.proofs.lemmas.Bool.Decides.{leb_tells}
use Rattle.laws.specs.Setting.{Setting, Fault, Slot}
use Rattle.laws.specs.Journal.{start, ◌▹◌, ◌≼◌, all, more, Journal, Wrote, Ticking, Admitting, Pulling, Taking}
use Rattle.laws.specs.Machine.{highest, beyond, journal, state}
use Rattle.laws.specs.Bytes.{Layout}
use Rattle.laws.specs.Laws.{Gave}
use Rattle.laws.specs.Example.{reads, valued, combines, single, silent, Shown, ExampleStands}

reads_fault : (p : ℕ) (b : List ℕ) (k : ℕ) → reads p b ≡ Fault k → (0 < k) × (k < 20)
reads_fault p [] k e = let q : 1 ≡ k = cc in omega arith
reads_fault p (n ∷ v) k e = elim (leb_tells (suc p) 2) [
  | inl h ↦ let e' : Slot n ≡ Fault k = rw h.0 at e in let z : ◌≡◌ {A = ℕ} 0 1 = cc in let no : ⊥ = omega arith in absurd no
  | inr h ↦ let e' : Fault 15 ≡ Fault k = rw h.0 at e in let q : 15 ≡ k = cc in omega arith
]

reads-slot : (p : ℕ) (b : List ℕ) (n : ℕ) → reads p b ≡ Slot n → p < 2
reads-slot p [] n e = let z : ◌≡◌ {A = ℕ} 0 1 = cc in let no : ⊥ = omega arith in absurd no
reads-slot p (m ∷ v) n e = elim (leb_tells (suc p) 2) [
  | inl h ↦ h.1
  | inr h ↦ let e' : Fault 15 ≡ Slot n = rw h.0 at e in let z : ◌≡◌ {A = ℕ} 0 1 = cc in let no : ⊥ = omega arith in absurd no
]

abbrev ex : Setting
ex = record {
  ports = 2;
  populated = omega arith;
  sound = reads;
  numbered = reads_fault;
  planned = reads-slot;
  stamp = λ n. n * 20000;
  upto = λ r. suc (r / 20000);
  counted = λ n r h. omega arith;
  bound = 50000;
  closing = λ t a. t + 50000;
  from = λ t a l h u. omega arith;
  within = λ t a. omega arith;
  spread = λ m n h. omega arith;
  opening = 1000000;
  usable = omega arith;
  first = 50;
  opens = omega arith;
  lowest = λ n h. omega arith;
  frame = combines;
  size = 4;
}

layout : Layout
layout = record { before = 1; head = λ n x. n ∷ []; headed = λ n x. refl; width = λ p. 1; block = λ p o. valued o ∷ []; sized = λ p o. refl; tail = λ n x. 170 ∷ [] }

-- a write whose bytes are known
gave_so : {J : Journal} (K : Journal) (len n : ℕ) (x : List ℕ) {y : List ℕ} → K ▹ Wrote len n x ≼ J → x ≡ y → Gave J n y
gave_so {J} K len n x w e = (K, len, subst (λ (z : List ℕ). K ▹ Wrote len n z ≼ J) e w)

shown : Shown ex
unfolding highest beyond layout
shown = record {
  ignores = λ t a. refl;
  alike = λ q ne. rw (ne_eqb 1 q (λ e. ne (sym e)));
  clear = (refl, refl);
  laid = (layout, λ n x. refl);
  early = (journal ex silent (start ▹ Admitting 0 (50 ∷ (7 ∷ [])) ▹ Admitting 1 (50 ∷ (9 ∷ [])) ▹ Taking), 100, more all);
  late =
      let waiting = single (record { port = 0; bytes = 50 ∷ (7 ∷ []) }) in
      let calls = start ▹ Pulling 1040 ▹ Ticking 1100000 1040 ▹ Taking in
      gave_so (journal ex waiting calls) 100 50 (combines 50 ((state ex waiting calls).held 50)) all cc;
}

pub example : ExampleStands
example = (ex, record { ports = refl; sound = refl; stamp = refl; upto = refl; closing = refl; first = refl; opening = refl; frame = refl; size = refl }, shown)
