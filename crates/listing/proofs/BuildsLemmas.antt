-- What the first lines leave, line by line.
use Rattle.std.proofs.Common.{◌≡◌, ℕ, ◌+◌, List, [], ◌∷◌, ◌++◌, length, replicate, Result, refl, sym, ◌∙◌, ap, unwrap_or}
use Rattle.std.proofs.Math.Numerals.{add-one}
use Rattle.plan.specs.Plans.{PlanOf, begun as begun_plan}
use Rattle.plan.specs.Runs.{State}
use Rattle.capture.specs.declared.record.Record.{Record}
use Rattle.listing.specs.declared.build.Outcome.{Outcome}
use Rattle.listing.specs.Lines.{first_config, first_rate, is_used}
use Rattle.common.specs.declared.fault.Fault.{Fault}
use Rattle.fields.specs.Fields.{left_by}
use Rattle.plan.specs.Publish.{publishes, published_frame}
use Rattle.listing.specs.Builds.{front_by, published, blank, begun, after_line, after_lines, outcome_of, outcomes}

-- what a publish answers and leaves is the frame, or the refusal
pub published_by : (p : PlanOf) (b b' : List ℕ) (reading : ℕ) (r : Result ℕ Fault) → r ≡ publishes p reading (length b) → b' ≡ left_by r (published_frame p reading b) b → front_by r b' ≡ published (record { plan = p; buffer = b }) reading
unfolding published
published_by p b b' reading r answer after =
    ap (front_by r) after ∙ ap (λ x. front_by x (left_by x (published_frame p reading b) b)) answer

pub plan-none : (id : ℕ) (rs : List Record) → (after_lines id rs 0).plan ≡ begun_plan id (unwrap_or (first_rate rs) 0)
unfolding after_lines begun
plan-none id rs = refl

pub buffer-none : (id : ℕ) (rs : List Record) → (after_lines id rs 0).buffer ≡ replicate 40024 0
unfolding after_lines begun blank
buffer-none id rs = refl

pub outcomes-none : (id : ℕ) (rs : List Record) → outcomes id rs 0 ≡ []
unfolding outcomes
outcomes-none id rs = refl

after_lines-one_more : (id : ℕ) (rs : List Record) (k : ℕ) → after_lines id rs (k + 1) ≡ after_line (after_lines id rs k) (first_config rs k)
unfolding after_lines
after_lines-one_more id rs k = rw (add-one k) refl

outcomes-one_more : (id : ℕ) (rs : List Record) (k : ℕ) → outcomes id rs (k + 1) ≡ outcomes id rs k ++ outcome_of (after_lines id rs k) (first_config rs k) (is_used rs k) ∷ []
unfolding outcomes
outcomes-one_more id rs k = rw (add-one k) refl

-- one line more, from a plan and a buffer that the lines below it have left
module _ (id : ℕ) (rs : List Record) (k : ℕ) (p : PlanOf) (b : List ℕ) (filled : p ≡ (after_lines id rs k).plan) (held : b ≡ (after_lines id rs k).buffer) where
  pub so_far : record { plan = p; buffer = b } ≡ after_lines id rs k
  so_far = ap (λ x. record { plan = x; buffer = b }) filled ∙ ap (λ y. record { plan = (after_lines id rs k).plan; buffer = y }) held

  pub plan-one_more : (p' : PlanOf) → p' ≡ (after_line (record { plan = p; buffer = b }) (first_config rs k)).plan → p' ≡ (after_lines id rs (k + 1)).plan
  plan-one_more p' e =
      e ∙ (ap (λ (s : State). (after_line s (first_config rs k)).plan) so_far ∙ sym (ap (λ (s : State). s.plan) (after_lines-one_more id rs k)))

  pub buffer-one_more : (b' : List ℕ) → b' ≡ (after_line (record { plan = p; buffer = b }) (first_config rs k)).buffer → b' ≡ (after_lines id rs (k + 1)).buffer
  buffer-one_more b' e =
      e ∙ (ap (λ (s : State). (after_line s (first_config rs k)).buffer) so_far ∙ sym (ap (λ (s : State). s.buffer) (after_lines-one_more id rs k)))

  pub lines-one_more : (os : List Outcome) (o : Outcome) → os ≡ outcomes id rs k → o ≡ outcome_of (record { plan = p; buffer = b }) (first_config rs k) (is_used rs k) → os ++ o ∷ [] ≡ outcomes id rs (k + 1)
  lines-one_more os o before e =
      ap (λ xs. xs ++ o ∷ []) before
      ∙ (ap (λ x. outcomes id rs k ++ x ∷ []) (e ∙ ap (λ s. outcome_of s (first_config rs k) (is_used rs k)) so_far) ∙ sym (outcomes-one_more id rs k))
