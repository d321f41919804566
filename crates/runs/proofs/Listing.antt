-- Lists of calls on the model, over any closings and any feed, follow the machine, and so keep the law.
use Rattle.std.proofs.Common.{◌≡◌, ℕ, List, [], ◌∷◌, None, map, sym, refl, ap, ◌∙◌, subst}
use Rattle.feed.specs.Feeds.{Behaviour}
use Rattle.engine.specs.Boxes as E
use Rattle.engine.specs.Calls.{open_setting}
use Rattle.concentrator.specs.Wholes.{Whole}
use Rattle.laws.specs.Setting.{Setting}
use Rattle.laws.specs.Journal.{start, Event}
use Rattle.laws.specs.Answers.{Right}
use Rattle.laws.specs.Machine as M
use Rattle.laws.proofs.Stand.{runs, keeps}
use Rattle.runs.specs.Settings.{Opened, setting}
use Rattle.runs.specs.Opens.{opened-facts}
use Rattle.runs.specs.Requests.{Request, call_of, leaves}
use Rattle.runs.specs.Entries.{all_due}
use Rattle.runs.specs.Events.{whole_of, events_of}
use Rattle.runs.specs.Laws.{CallsKeepTheLaw}
use Rattle.runs.proofs.Following.{opened-same}
use Rattle.runs.proofs.Followed.{answered, left}

module _ (e : E.Setting) (closing : E.Closing) (bound reading : ℕ) (o : Opened e closing bound reading) where
  abbrev g : Setting
  g = setting e closing bound reading o

  follows : (s : M.State) (rs : List Request) → events_of (all_due (whole_of e closing s) rs) ≡ M.answers g s (map call_of rs)
  follows s [] = refl
  follows s (r ∷ rs) =
      let at = M.event g s (call_of r) in
      ap (λ (x : Event). x ∷ events_of (all_due (leaves (whole_of e closing s) r) rs)) (answered e closing bound reading o s r)
      ∙ ap (λ (js : List Event). at ∷ js)
      (ap (λ (w : Whole). events_of (all_due w rs)) (left e closing bound reading o s r) ∙ follows (M.next g s at) rs)

  right : (B : Behaviour) (rs : List Request) → Right g B (M.onto start (events_of (all_due (whole_of e closing (M.opened g B)) rs)))
  right B rs =
      subst (λ (js : List Event). Right g B (M.onto start js)) (sym (follows (M.opened g B) rs)) ((keeps g).listed B (map call_of rs))

pub calls_keep_the_law_lem : CallsKeepTheLaw
calls_keep_the_law_lem p closing bound reading h =
    let e = open_setting p reading in
    let o = opened-facts p closing bound reading h in
    record {
      facts = o;
      answered = λ B rs.
          subst (λ (w : Whole). Right (setting e closing bound reading o) B (M.onto start (events_of (all_due w rs))))
          (ap (λ (b : E.Box). record { shut = None; setting = e; closing = closing; box = b; feed = B }) (sym (opened-same e closing bound reading o B)))
          (right e closing bound reading o B rs);
      law = runs (setting e closing bound reading o);
    }
