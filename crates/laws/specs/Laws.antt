-- The law over runs, and the machine that keeps it.
use Rattle.std.specs.Prelude.{◌≡◌, ℕ, ◌+◌, ◌<◌, ◌≤◌, ◌↔◌, List, [], ◌++◌, length, None, Option, ◌≢◌}
use Rattle.feed.specs.Feeds.{Behaviour, Lawful, Op}
use Rattle.laws.specs.Setting.{Setting}
use Rattle.laws.specs.Journal.{Past, start, ◌▹◌, ◌≼◌, Call, Source, Ticked, Took, Wrote, Told, Journal, latest, writes, accepted, frame_at, Closed, tally, refused, seen, admitted, added, ops}
use Rattle.laws.specs.Answers.{Counts, Right}
use Rattle.laws.specs.Machine.{opened, state, journal, onto, answers}
use Rattle.laws.specs.Bytes.{Layout, Lays, part}

-- ---- order
-- a write after K gave slot n, and these bytes: n is the next slot in order, it is closed, and the bytes are its combined frame
pub record Orderly (g : Setting) (K : Journal) (n : ℕ) (x : List ℕ) : Type 0 where
  pub number : n ≡ g.first + writes K
  pub closed : Closed g K n
  pub bytes : x ≡ frame_at g K n

-- order: each write of a run gives the next slot, closed and with its combined frame, no closed slot changes, and none from the first on is open past its stamp and the bound
pub record Order (g : Setting) : Type 0 where
  -- each write of a run is so
  pub orderly : (B : Behaviour) (J : Journal) → Right g B J → (K : Journal) (len n : ℕ) (x : List ℕ) → K ▹ Wrote len n x ≼ J → Orderly g K n x
  -- once a slot is closed, nothing changes the frames in it, and so nothing its combined frame
  pub kept : (B : Behaviour) (J : Journal) → Right g B J → (K : Journal) (n p : ℕ) → K ≼ J → Closed g K n → accepted g J p n ≡ accepted g K p n
  pub framed : (B : Behaviour) (J : Journal) → Right g B J → (K : Journal) (n : ℕ) → K ≼ J → Closed g K n → frame_at g J n ≡ frame_at g K n
  -- no slot from the first on is open past its stamp and the bound
  pub bound : (J : Journal) (n : ℕ) → g.first ≤ n → g.stamp n + g.bound ≤ latest g J → Closed g J n

-- ---- account
-- account: no frame is lost or invented, a tick takes none away, and what counts told is the account of the run
pub record Account (g : Setting) : Type 0 where
  -- no frame is lost or invented: those admitted, those that waited at the opening and those that ticks added are those accepted, those refused and those that wait now
  pub sums : (B : Behaviour) → Lawful B → (J : Journal) → Right g B J → admitted J + length (B []) + added g B J ≡ tally J 0 + refused J + length (B (ops g J))
  -- a tick takes no frame off the feed
  pub grows : (B : Behaviour) → Lawful B → (J : Journal) (r len : ℕ) → length (B (ops g J)) ≤ length (B (ops g (J ▹ Ticked r len)))
  -- what counts told is the account of the run until then
  pub told : (B : Behaviour) (J : Journal) → Right g B J → (K : Journal) (a m : ℕ) (t : ℕ → ℕ) → K ▹ Told a m t ≼ J → Counts K a m t

-- ---- agreement
-- no first arrival, nor the lack of one, changes when a slot closes
abbrev pub IgnoresArrivals : Setting → Type 0
IgnoresArrivals g = (t : ℕ) (a : Option ℕ) → g.closing t a ≡ g.closing t None

-- two runs tick alike, and between ticks take the same frames in order of every port but p, whatever their other calls and whatever became of the frames
abbrev pub Alike : Setting → ℕ → Journal → Journal → Type 0
Alike g p J K = (q : ℕ) → (q ≢ p) → seen g q J ≡ seen g q K

-- in a run a write gave slot n these bytes
abbrev pub Gave : Journal → ℕ → List ℕ → Type 0
Gave J n x = (K : Journal) × (len : ℕ) × (K ▹ Wrote len n x ≼ J)

-- two runs agree but for port p: every other port has the same frame in each slot, if any, and the same bytes in each combined frame that both wrote
pub record Agreed (g : Setting) (p : ℕ) (J K : Journal) : Type 0 where
  pub frames : (q n : ℕ) → (q ≢ p) → accepted g J q n ≡ accepted g K q n
  pub bytes : (L : Layout) → Lays L g → (q n : ℕ) (x y : List ℕ) → q < g.ports → (q ≢ p) → Gave J n x → Gave K n y → part L q x ≡ part L q y

-- two runs over any two feeds, under a policy that ignores first arrivals, agree but for port p if they are alike but for it and no frame was given 22
abbrev pub Agreement : Setting → Type 0
Agreement g = (B C : Behaviour) (J K : Journal) → Right g B J → Right g C K → (p : ℕ) →
    IgnoresArrivals g →
    Alike g p J K →
    tally J 22 ≡ 0 → tally K 22 ≡ 0 →
    Agreed g p J K

-- ---- a prompt host
-- each time that a frame was taken, by admit or by pull, every closed slot was written
abbrev pub PromptHost : Setting → Journal → Type 0
PromptHost g J = (K : Journal) (w : Source) (p : ℕ) (b : List ℕ) (v : ℕ) → K ▹ Took w p b v ≼ J → (n : ℕ) → Closed g K n → n < g.first + writes K

-- then no frame was given 22
abbrev pub Prompt : Setting → Type 0
Prompt g = (B : Behaviour) (J : Journal) → Right g B J → PromptHost g J → tally J 22 ≡ 0

-- ---- all of it
-- the law over runs: it holds of every journal in which each call answered what was due
pub record Runs (g : Setting) : Type 0 where
  pub order : Order g
  pub account : Account g
  pub agreement : Agreement g
  pub prompt : Prompt g

-- the machine's journals are the right ones and no others, and its feed and its front are as the journal says
pub record Keeps (g : Setting) : Type 0 where
  -- the machine answers any calls as is due, one by one and from a list
  pub right : (B : Behaviour) (cs : Past Call) → Right g B (journal g B cs)
  pub listed : (B : Behaviour) (cs : List Call) → Right g B (onto start (answers g (opened g B) cs))
  -- every right journal is the machine's, of some calls
  pub every : (B : Behaviour) (J : Journal) → Right g B J → (cs : Past Call) × (J ≡ journal g B cs)
  -- its feed behaves as at the opening, after what the run did to it
  pub feed : (B : Behaviour) (cs : Past Call) (o : List Op) → (state g B cs).feed o ≡ B (ops g (journal g B cs) ++ o)
  -- the slots from the first on that are below its front are the closed ones
  pub front : (B : Behaviour) (cs : Past Call) (n : ℕ) → g.first ≤ n → (n < (state g B cs).front) ↔ Closed g (journal g B cs) n

-- in every setting the law holds, and the machine keeps it
abbrev pub RunsStand : Type 0
RunsStand = (g : Setting) → Runs g × Keeps g
