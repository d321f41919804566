-- Lists of calls, one call more.
use Rattle.std.proofs.Common.{◌≡◌, ℕ, ◌+◌, ◌<◌, List, [], ◌∷◌, ◌++◌, map, length, take, get_or, Ok, Err, Result, OnErr, IfOk, refl, sym, ap, ◌∙◌, subst}
use Rattle.std.proofs.lemmas.List.{map_more, map-append}
use Rattle.concentrator.specs.Wholes.{Whole}
use Rattle.laws.specs.Journal.{Journal, ◌▹◌}
use Rattle.laws.specs.Machine.{onto}
use Rattle.runs.specs.declared.call.Call.{Call}
use Rattle.runs.specs.declared.entry.Entry.{Entry}
use Rattle.runs.specs.Requests.{Request, leaves}
use Rattle.runs.specs.Entries.{EntryOf, due, all_due, left_by}
use Rattle.runs.specs.Events.{event_of, events_of}
use Rattle.runs.specs.Given.{request_of, requests_of, entry_of}
use Rattle.runs.specs.Kept.{Kept}
use Rattle.runs.specs.Standing.{Opening, Reached, called, LeftBySome}
use Rattle.runs.proofs.Followed.{kept_by}

pub due-more : (w : Whole) (rs : List Request) (r : Request) → all_due w (rs ++ (r ∷ [])) ≡ all_due w rs ++ (due (left_by w rs) r ∷ [])
due-more w [] r = refl
due-more w (x ∷ rs) r = ap (λ (es : List EntryOf). due w x ∷ es) (due-more (leaves w x) rs r)

pub left-more : (w : Whole) (rs : List Request) (r : Request) → left_by w (rs ++ (r ∷ [])) ≡ leaves (left_by w rs) r
left-more w [] r = refl
left-more w (x ∷ rs) r = left-more (leaves w x) rs r

-- a run goes on with a list of calls
pub runs-on : (o : Opening) (J : Journal) (w : Whole) (rs : List Request) → Reached o J w → Reached o (onto J (events_of (all_due w rs))) (left_by w rs)
runs-on o J w [] t = t
runs-on o J w (r ∷ rs) t = runs-on o (J ▹ event_of (due w r)) (leaves w r) rs (called t r)

module _ (w : Whole) (cs : List Call) (k : ℕ) (x : Call) (h : k < length cs) (is : x ≡ get_or cs k x) where
  one-more : requests_of (take (k + 1) cs) ≡ requests_of (take k cs) ++ (request_of x ∷ [])
  one-more = map_more request_of cs k x h ∙ ap (λ (y : Call). requests_of (take k cs) ++ (request_of y ∷ [])) (sym is)

  pub left-next : (v v' : Whole) → v ≡ left_by w (requests_of (take k cs)) → v' ≡ leaves v (request_of x) → v' ≡ left_by w (requests_of (take (k + 1) cs))
  left-next v v' so next =
      next ∙ (ap (λ (u : Whole). leaves u (request_of x)) so ∙ (sym (left-more w (requests_of (take k cs)) (request_of x)) ∙ ap (left_by w) (sym one-more)))

  pub answers-next : (v : Whole) (es es' : List Entry) (e : Entry) → v ≡ left_by w (requests_of (take k cs))
      → map entry_of es ≡ all_due w (requests_of (take k cs)) → entry_of e ≡ due v (request_of x) → es' ≡ es ++ (e ∷ [])
      → map entry_of es' ≡ all_due w (requests_of (take (k + 1) cs))
  answers-next v es es' e so before due_now all =
      ap (map entry_of) all
      ∙ (map-append entry_of es (e ∷ [])
      ∙ (ap (λ u. u ++ (entry_of e ∷ [])) before
      ∙ (ap (λ (u : EntryOf). all_due w (requests_of (take k cs)) ++ (u ∷ [])) (due_now ∙ ap (λ (u : Whole). due u (request_of x)) so)
      ∙ (sym (due-more w (requests_of (take k cs)) (request_of x)) ∙ ap (all_due w) (sym one-more)))))

pub left-by : (w : Whole) (cs : List Call) (left : Whole) (k : ℕ) → left ≡ left_by w (requests_of (take k cs)) → LeftBySome w cs left
left-by w cs left k so = record {
  made = k;
  so = so;
  goes_on = λ o before t.
      subst (λ (v : Whole). Reached o (onto before (events_of (all_due w (requests_of (take k cs))))) v) (sym so)
      (runs-on o before w (requests_of (take k cs)) t);
}

-- what holds anyhow holds on an error
pub stopped : {A E P : Type 0} (r : Result A E) → P → OnErr r P
stopped (Ok x) p = tt
stopped (Err e) p = p

-- a run goes on with a call that was made, and keeps the law
module _ {E : Type 0} (w left : Whole) (q : Request) where
  pub one-reached : (r : Result Entry E) → IfOk r (λ e. entry_of e ≡ due w q) → IfOk r (λ e. left ≡ leaves w q)
      → IfOk r (λ e. (o : Opening) (before : Journal) → Reached o before w → Reached o (before ▹ event_of (entry_of e)) left)
  one-reached (Ok e) entry next =
      λ o before t.
      subst (λ (x : EntryOf). Reached o (before ▹ event_of x) left) (sym entry)
      (subst (λ (v : Whole). Reached o (before ▹ event_of (due w q)) v) (sym next) (called t q))
  one-reached (Err x) entry next = tt

  pub one-kept : (r : Result Entry E) → IfOk r (λ e. entry_of e ≡ due w q) → IfOk r (λ e. left ≡ leaves w q)
      → IfOk r (λ e. (o : Opening) (before : Journal) → Reached o before w → Kept o (before ▹ event_of (entry_of e)) left)
  one-kept (Ok e) entry next = λ o before t. kept_by o (one-reached (Ok e) entry next o before t)
  one-kept (Err x) entry next = tt
