-- Two runs that the agreement speaks of: in one, port 1 completes the slot early and the slot is written at once; in the other, port 1 never comes.
use Rattle.std.specs.Prelude.{◌≡◌, ℕ, suc, ◌+◌, ◌*◌, ◌/◌, cond, List, [], ◌∷◌, Some, None, Option, ◌≢◌, nat_lt, slice_index}
use Rattle.feed.specs.Feeds.{Behaviour, Waiting, Tick, Next}
use Rattle.laws.specs.Setting.{Setting, Contents, Sort, Fault, Slot}
use Rattle.laws.specs.Journal.{start, ◌▹◌, Ticking, Admitting, Pulling, Taking, Writing, Journal, seen, tally}
use Rattle.laws.specs.Machine.{journal}
use Rattle.laws.specs.Bytes.{Layout, Lays}
use Rattle.laws.specs.Laws.{IgnoresArrivals, Gave}

-- a frame of the example is its slot's number and a value
abbrev pub reads : ℕ → List ℕ → Sort
reads p [] = Fault 1
reads p (n ∷ v) = cond (nat_lt p 2) (Slot n) (Fault 15)

-- the byte that stands for a port: its value, or 255 for none
abbrev pub valued : Option (List ℕ) → ℕ
valued None = 255
valued (Some b) = slice_index b 1

-- a combined frame of the example: its slot's number, a byte for each of the two ports, and an end
abbrev pub combines : ℕ → Contents → List ℕ
combines n x = n ∷ (valued (x 0) ∷ (valued (x 1) ∷ (170 ∷ [])))

-- a setting with 2 ports, 50 slots a second, and closing at the stamp and 50,000
pub record Plain (g : Setting) : Type 0 where
  pub ports : g.ports ≡ 2
  pub sound : g.sound ≡ reads
  pub stamp : g.stamp ≡ (λ n. n * 20000)
  pub upto : g.upto ≡ (λ r. suc (r / 20000))
  pub closing : g.closing ≡ (λ t a. t + 50000)
  pub first : g.first ≡ 50
  pub opening : g.opening ≡ 1000000
  pub frame : g.frame ≡ combines
  pub size : g.size ≡ 4

-- a feed at which one frame waits at first
abbrev pub single : Waiting → Behaviour
single f [] = f ∷ []
single f (Tick r ∷ os) = single f os
single f (Next ∷ os) = []

-- a feed at which nothing ever waits
abbrev pub silent : Behaviour
silent os = []

-- the host admits a frame of each port, writes the slot and ticks
abbrev pub both : Setting → Journal
both g = journal g silent (start ▹ Admitting 0 (50 ∷ (7 ∷ [])) ▹ Admitting 1 (50 ∷ (9 ∷ [])) ▹ Taking ▹ Writing 50 100 ▹ Ticking 1100000 1040)

-- the host pulls a frame of port 0, ticks, and writes the slot
abbrev pub alone : Setting → Journal
alone g = journal g (single (record { port = 0; bytes = 50 ∷ (7 ∷ []) })) (start ▹ Pulling 1040 ▹ Ticking 1100000 1040 ▹ Taking ▹ Writing 50 100)

-- the two runs meet what the agreement asks for port 1, and both wrote slot 50: with port 0 alike, and port 1 not
pub record Shown (g : Setting) : Type 0 where
  pub ignores : IgnoresArrivals g
  pub alike : (q : ℕ) → (q ≢ 1) → seen g q (both g) ≡ seen g q (alone g)
  pub clear : (tally (both g) 22 ≡ 0) × (tally (alone g) 22 ≡ 0)
  pub laid : (L : Layout) × Lays L g
  pub early : Gave (both g) 50 (50 ∷ (7 ∷ (9 ∷ (170 ∷ []))))
  pub late : Gave (alone g) 50 (50 ∷ (7 ∷ (255 ∷ (170 ∷ []))))

-- there is such a setting, and such runs of it
abbrev pub ExampleStands : Type 0
ExampleStands = (g : Setting) × Plain g × Shown g
