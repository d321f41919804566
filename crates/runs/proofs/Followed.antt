-- Runs of the concentrator follow the machine, and so keep the law.
use Rattle.std.proofs.Common.{◌≡◌, ℕ, ◌++◌, None, sym, refl, ap, ◌∙◌, subst}
use Rattle.engine.specs.Boxes as E
use Rattle.engine.specs.Calls.{open_setting}
use Rattle.concentrator.specs.Wholes.{Whole, begins}
use Rattle.laws.specs.Setting.{Setting}
use Rattle.feed.specs.Feeds.{Behaviour}
use Rattle.laws.specs.Journal.{Past, start, ◌▹◌, ◌≼◌, all, more, Call, Journal, ops}
use Rattle.laws.specs.Answers.{Right, more-due}
use Rattle.laws.specs.Machine as M
use Rattle.laws.proofs.Stand.{runs, keeps}
use Rattle.runs.specs.Settings.{Opened, setting}
use Rattle.runs.specs.Events.{whole_of, event_of}
use Rattle.runs.specs.Entries.{due}
use Rattle.runs.specs.Requests.{Request, ticking, admitting, pulling, taking, writing, counting, call_of, leaves}
use Rattle.runs.specs.Standing.{Opening, Reached, opened, called, setting_in}
use Rattle.runs.specs.Kept.{Kept}
use Rattle.runs.proofs.Following.{opened-same}
use Rattle.runs.proofs.Calls.{tick-answer, tick-next, admit_answer, admit_next, pull_answer, pull_next, take-answer, take_next, write-answer, write-next}
use Rattle.runs.specs.Opens.{opened-facts}
use Rattle.runs.proofs.Laid.{lays}

module _ (e : E.Setting) (closing : E.Closing) (bound reading : ℕ) (o : Opened e closing bound reading) where
  abbrev g : Setting
  g = setting e closing bound reading o

  pub answered : (s : M.State) (r : Request) → event_of (due (whole_of e closing s) r) ≡ M.event g s (call_of r)
  answered s (ticking r scratch) = tick-answer e closing bound reading o s r scratch
  answered s (admitting q bytes) = admit_answer e closing bound reading o s q bytes
  answered s (pulling buffer) = pull_answer e closing bound reading o s buffer
  answered s taking = take-answer e closing bound reading o s
  answered s (writing n room) = write-answer e closing bound reading o s n room
  answered s counting = refl

  pub left : (s : M.State) (r : Request) → leaves (whole_of e closing s) r ≡ whole_of e closing (M.next g s (M.event g s (call_of r)))
  left s (ticking r scratch) = tick-next e closing bound reading o s r scratch
  left s (admitting q bytes) = admit_next e closing bound reading o s q bytes
  left s (pulling buffer) = pull_next e closing bound reading o s buffer
  left s taking = cc (take_next e closing bound reading o s)
  left s (writing n room) = write-next e closing bound reading o s n room
  left s counting = refl

module _ (o : Opening) where
  abbrev e : E.Setting
  e = open_setting o.plan o.reading

  abbrev h : Setting
  h = setting_in o

  abbrev facts : Opened e o.closing o.bound o.reading
  facts = opened-facts o.plan o.closing o.bound o.reading o.opens

  -- the calls of a run, whose journal and state are the machine's
  pub record Runs_as (J : Journal) (w : Whole) : Type 0 where
    pub calls : Past Call
    pub journal : J ≡ M.journal h o.feed calls
    pub left_so : w ≡ whole_of e o.closing (M.state h o.feed calls)

  pub runs_as : {J : Journal} {w : Whole} → Reached o J w → Runs_as J w
  runs_as opened = record {
    calls = start;
    journal = refl;
    left_so = ap (λ (b : E.Box). record { shut = None; setting = e; closing = o.closing; box = b; feed = o.feed }) (opened-same e o.closing o.bound o.reading facts o.feed);
  }
  runs_as (called {J = J} {w = w} t r) =
      let z = runs_as t in
      let s = M.state h o.feed z.calls in
      record {
        calls = z.calls ▹ call_of r;
        journal =
            ap (λ (K : Journal). K ▹ event_of (due w r)) z.journal
            ∙ ap (λ (v : _). M.journal h o.feed z.calls ▹ v) (ap (λ (x : Whole). event_of (due x r)) z.left_so ∙ answered e o.closing o.bound o.reading facts s r);
        left_so = ap (λ (x : Whole). leaves x r) z.left_so ∙ left e o.closing o.bound o.reading facts s r;
      }

  pub right_by : {J : Journal} {w : Whole} → Reached o J w → Right h o.feed J
  right_by {J} t =
      let z = runs_as t in
      subst (λ (K : Journal). Right h o.feed K) (sym z.journal) ((keeps h).right o.feed z.calls)

  -- what was due at the end was due at each moment before
  before : (B : Behaviour) {K J : Journal} → K ≼ J → Right h B J → Right h B K
  before B all r = r
  before B (more l) (more-due r d) = before B l r

  -- this opening over another's feed
  abbrev pub over : Opening → Opening
  over other = record { plan = o.plan; closing = o.closing; bound = o.bound; reading = o.reading; feed = other.feed; lawful = other.lawful; opens = o.opens }

  reached_over : (other : Opening) → other.plan ≡ o.plan → other.closing ≡ o.closing → other.reading ≡ o.reading → {K : Journal} {v : Whole} → Reached other K v → Reached (over other) K v
  reached_over other p c r opened =
      subst (λ (w : Whole). Reached (over other) start w)
      (sym (ap (λ x. begins x other.reading other.closing other.feed) p ∙ (ap (λ x. begins o.plan x other.closing other.feed) r ∙ ap (λ x. begins o.plan o.reading x other.feed) c)))
      opened
  reached_over other p c r (called t q) = called (reached_over other p c r t) q

right_as : (o other : Opening) → other.plan ≡ o.plan → other.closing ≡ o.closing → other.reading ≡ o.reading → {K : Journal} {v : Whole} → Reached other K v → Right (setting_in o) other.feed K
right_as o other p c r t = right_by (over o other) (reached_over o other p c r t)

-- ---- the law of each run
pub kept_by : (o : Opening) {J : Journal} {w : Whole} → Reached o J w → Kept o J w
kept_by o {J} {w} t =
    let z = runs_as o t in
    let g = setting_in o in
    let law = runs g in
    let right = right_by o t in
    record {
      answered = right;
      order = record {
        orderly = law.order.orderly o.feed J right;
        kept = law.order.kept o.feed J right;
        framed = law.order.framed o.feed J right;
        bound = λ K n l. law.order.bound K n;
      };
      account = record {
        sums = λ K l. law.account.sums o.feed o.lawful K (before o o.feed l right);
        grows = λ K r len l. law.account.grows o.feed o.lawful K r len;
        told = law.account.told o.feed J right;
        fed = λ os.
            ap (λ (x : Whole). x.feed os) z.left_so
            ∙ ((keeps g).feed o.feed z.calls os
            ∙ ap (λ (K : Journal). o.feed (ops g K ++ os)) (sym z.journal));
      };
      agreement = λ other K v r plan closing reading p. law.agreement o.feed other.feed J K right (right_as o other plan closing reading r) p;
      laid = λ n x. lays (open_setting o.plan o.reading) n x;
      prompt = λ K l. law.prompt o.feed K (before o o.feed l right);
    }
