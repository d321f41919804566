-- The law over runs, of one run: what holds of its journal at each moment, and of the concentrator that it leaves.
use Rattle.std.specs.Prelude.{◌≡◌, ℕ, ◌+◌, ◌≤◌, List, ◌++◌, [], length}
use Rattle.feed.specs.Feeds.{Op}
use Rattle.concentrator.specs.Wholes.{Whole}
use Rattle.laws.specs.Journal.{◌▹◌, ◌≼◌, Journal, Ticked, Wrote, Told, latest, accepted, frame_at, Closed, tally, refused, admitted, added, ops}
use Rattle.laws.specs.Answers.{Right, Counts}
use Rattle.laws.specs.Bytes.{Lays}
use Rattle.laws.specs.Laws.{Orderly, IgnoresArrivals, Alike, Agreed, PromptHost}
use Rattle.engine.specs.Calls.{open_setting}
use Rattle.runs.specs.Layouts.{layout}
use Rattle.runs.specs.Standing.{Opening, Reached, setting_in}

-- ---- order
-- a write gave the next slot in order, which was closed by then, and its combined frame: port by port the first frame accepted while it was open, else the absent block
-- once a slot is closed, nothing changes the frames in it, nor its combined frame
-- a slot from the first on is closed once the clock has come to its stamp and the bound
pub record Order (o : Opening) (J : Journal) : Type 0 where
  pub orderly : (K : Journal) (len n : ℕ) (x : List ℕ) → K ▹ Wrote len n x ≼ J → Orderly (setting_in o) K n x
  pub kept : (K : Journal) (n p : ℕ) → K ≼ J → Closed (setting_in o) K n → accepted (setting_in o) J p n ≡ accepted (setting_in o) K p n
  pub framed : (K : Journal) (n : ℕ) → K ≼ J → Closed (setting_in o) K n → frame_at (setting_in o) J n ≡ frame_at (setting_in o) K n
  pub bound : (K : Journal) (n : ℕ) → K ≼ J → (setting_in o).first ≤ n → (setting_in o).stamp n + o.bound ≤ latest (setting_in o) K → Closed (setting_in o) K n

-- ---- account
-- at each moment the frames admitted, those that waited at the opening and those that ticks added are those accepted, those refused and those that wait then; a tick takes none away
-- what counts told is the account of the run until then
-- the feed that is left means what it meant at the opening after one tick for each accepted tick, with the latest reading, and one next for each frame that was pulled
pub record Account (o : Opening) (J : Journal) (w : Whole) : Type 0 where
  pub sums : (K : Journal) → K ≼ J → admitted K + length (o.feed []) + added (setting_in o) o.feed K ≡ tally K 0 + refused K + length (o.feed (ops (setting_in o) K))
  pub grows : (K : Journal) (r len : ℕ) → K ▹ Ticked r len ≼ J → length (o.feed (ops (setting_in o) K)) ≤ length (o.feed (ops (setting_in o) (K ▹ Ticked r len)))
  pub told : (K : Journal) (a m : ℕ) (t : ℕ → ℕ) → K ▹ Told a m t ≼ J → Counts K a m t
  pub fed : (os : List Op) → w.feed os ≡ o.feed (ops (setting_in o) J ++ os)

-- ---- agreement
-- take any other run, over a feed of any kind, from an opening with the same plan, policy and reading: if the policy ignores first arrivals, both tick alike, between ticks have the same frames taken of every port but p, and gave no frame 22, then every other port has the same frame in each slot, and the same bytes in each frame that both wrote
abbrev pub Agreement : Opening → Journal → Type 0
Agreement o J = (other : Opening) (K : Journal) (v : Whole) → Reached other K v →
    other.plan ≡ o.plan → other.closing ≡ o.closing → other.reading ≡ o.reading → (p : ℕ) →
    IgnoresArrivals (setting_in o) → Alike (setting_in o) p J K → tally J 22 ≡ 0 → tally K 22 ≡ 0 → Agreed (setting_in o) p J K

-- ---- all of it
-- the law of one run from an opening, with its journal and the concentrator that it leaves
pub record Kept (o : Opening) (J : Journal) (w : Whole) : Type 0 where
  -- each call was answered as is due after those before it
  pub answered : Right (setting_in o) o.feed J
  pub order : Order o J
  pub account : Account o J w
  pub agreement : Agreement o J
  -- combined frames are laid out port by port, so the agreement speaks of each port's bytes in them
  pub laid : Lays (layout (open_setting o.plan o.reading)) (setting_in o)
  -- as long as a host has every closed slot written each time that a frame is taken, it never meets refusal 22
  pub prompt : (K : Journal) → K ≼ J → PromptHost (setting_in o) K → tally K 22 ≡ 0
