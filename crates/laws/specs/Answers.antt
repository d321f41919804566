-- What each call answers, said of the journal before it.
use Rattle.std.specs.Prelude.{◌≡◌, ℕ, ◌+◌, ◌<◌, ◌≤◌, true, false, ◌⊎◌, List, [], ◌∷◌, is_some, Some, None, ◌≢◌}
use Rattle.laws.specs.Setting.{Setting, Sort, Fault, Slot}
use Rattle.feed.specs.Feeds.{Behaviour, Waiting}
use Rattle.laws.specs.Journal.{start, ◌▹◌, Journal, Ticking, Admitting, Pulling, Taking, Writing, Source, Host, Feed, Event, Ticked, Took, Lent, Wrote, Told, Refused, latest, writes, accepted, frame_at, Closed, tally, judged, ticket_out, ops}
use Rattle.common.specs.Readings.{last_reading}

-- the oldest unwritten slot
abbrev pub oldest : Setting → Journal → ℕ
oldest g K = g.first + writes K

-- a slot is open from the first on until it is closed
abbrev pub Open : Setting → Journal → ℕ → Type 0
Open g K n = (g.first ≤ n) × (Closed g K n → ⊥)

-- the verdict on a frame of port q after K, by what the frame is in itself
pub data Verdict (g : Setting) (K : Journal) (q : ℕ) : Sort → ℕ → Type 0 where
  -- refused for its own sake
  unsound : {k : ℕ} → Verdict g K q (Fault k) k
  -- too far past the latest reading
  early : {n : ℕ} → latest g K + 100000 < g.stamp n → Verdict g K q (Slot n) 10
  -- before the first slot, or closed
  late : {n : ℕ} → g.stamp n ≤ latest g K + 100000 → (n < g.first) ⊎ Closed g K n → Verdict g K q (Slot n) 20
  -- too far past the oldest unwritten slot
  ahead : {n : ℕ} → g.stamp n ≤ latest g K + 100000 → Open g K n → oldest g K + 32 ≤ n → Verdict g K q (Slot n) 22
  -- the port is in the slot already
  again : {n : ℕ} → g.stamp n ≤ latest g K + 100000 → Open g K n → n < oldest g K + 32 → is_some (accepted g K q n) ≡ true → Verdict g K q (Slot n) 21
  -- accepted
  fresh : {n : ℕ} → g.stamp n ≤ latest g K + 100000 → Open g K n → n < oldest g K + 32 → is_some (accepted g K q n) ≡ false → Verdict g K q (Slot n) 0

-- where a frame taken after K came from: the host, or it was the first that waited at the feed
pub data From (g : Setting) (B : Behaviour) (K : Journal) : Source → ℕ → List ℕ → Type 0 where
  host : {q : ℕ} {b : List ℕ} → From g B K Host q b
  feed : {len q : ℕ} {b : List ℕ} (fs : List Waiting) → 1040 ≤ len → B (ops g K) ≡ record { port = q; bytes = b } ∷ fs → From g B K (Feed len) q b

-- what counts tell after K: the frames accepted, the writes that succeeded, and the frames refused by each number so far
pub record Counts (K : Journal) (a m : ℕ) (t : ℕ → ℕ) : Type 0 where
  pub accepted : a ≡ tally K 0
  pub written : m ≡ writes K
  pub refused : (v : ℕ) → t v ≡ tally K v

-- the event that a call makes after K
pub data Due (g : Setting) (B : Behaviour) (K : Journal) : Event → Type 0 where
  tick : {r len : ℕ} → 1040 ≤ len → r ≤ last_reading → r ≤ latest g K + 60000000 → Due g B K (Ticked r len)
  tick-short : {r len : ℕ} → len < 1040 → Due g B K (Refused (Ticking r len) 17)
  tick-large : {r len : ℕ} → 1040 ≤ len → (last_reading < r) ⊎ (latest g K + 60000000 < r) → Due g B K (Refused (Ticking r len) 14)
  frame : {w : Source} {q : ℕ} {b : List ℕ} {v : ℕ} → judged K < 1000000000000000 → From g B K w q b → Verdict g K q (g.sound q b) v → Due g B K (Took w q b v)
  admit_full : {q : ℕ} {b : List ℕ} → 1000000000000000 ≤ judged K → Due g B K (Refused (Admitting q b) 28)
  pull_short : {len : ℕ} → len < 1040 → Due g B K (Refused (Pulling len) 17)
  pull_full : {len : ℕ} → 1040 ≤ len → 1000000000000000 ≤ judged K → Due g B K (Refused (Pulling len) 28)
  pull_dry : {len : ℕ} → 1040 ≤ len → judged K < 1000000000000000 → B (ops g K) ≡ [] → Due g B K (Refused (Pulling len) 30)
  lend : ticket_out K ≡ None → Closed g K (oldest g K) → Due g B K (Lent (oldest g K))
  lend-out : {k : ℕ} → ticket_out K ≡ Some k → Due g B K (Refused Taking 24)
  lend_open : ticket_out K ≡ None → (Closed g K (oldest g K) → ⊥) → Due g B K (Refused Taking 23)
  write : {len k : ℕ} {x : List ℕ} → ticket_out K ≡ Some k → g.size ≤ len → x ≡ frame_at g K k → Due g B K (Wrote len k x)
  write-short : {k len : ℕ} → ticket_out K ≡ Some k → len < g.size → Due g B K (Refused (Writing k len) 17)
  write_not_out : {k len : ℕ} → (ticket_out K ≢ Some k) → Due g B K (Refused (Writing k len) 29)
  counts : {a m : ℕ} {t : ℕ → ℕ} → Counts K a m t → Due g B K (Told a m t)

-- a journal is right if each of its events was due after those before it
pub data Right (g : Setting) (B : Behaviour) : Journal → Type 0 where
  nothing : Right g B start
  more-due : {J : Journal} {e : Event} → Right g B J → Due g B J e → Right g B (J ▹ e)
