use Rattle.std.proofs.Common.{◌≡◌, ℕ, ◌+◌, ◌<◌, Some, None, length, get_or, arith, option_map, MatchOption, sym, ap, ◌∙◌}
use Rattle.std.proofs.lemmas.Grind.{common_steps}
use Rattle.std.specs.declared.option.Option.{Option}
use Rattle.config.specs.Configs.{listed}
use Rattle.plan.specs.declared.find.Place.{Place}
use Rattle.plan.specs.declared.record.Record.{Record}
use Rattle.plan.specs.Tables.{ports_of}
use Rattle.plan.specs.Find.{place_in, find_in, place_of}
use Rattle.plan.proofs.Finds.{find_in-none, find_in-at, by_some}
use Rattle.plan.proofs.plan.Plan.find.Goals as goal

by_option : (X : Type 0) (Y : Place → Type 0) (P : Option Place → Type 0) (r : Option Place) → MatchOption r X Y → (X → P None) → ((y : Place) → Y y → P (Some y)) → P r
by_option X Y P None m f g = f m
by_option X Y P (Some y) m f g = g y m

pub returns : goal.returns
returns c =
    let rs = c.ports.result.now in
    let id = c.args.id.0 in
    let w = c.find_map.ensures.runs in
    by_option _ _ (λ r. option_map place_of r ≡ find_in (ports_of c.args.self.now.table) id 0) c.find_map.result w.2
    (λ none.
    let each : (k : ℕ) (d : Record) → k < length rs → place_in (listed (get_or rs k d).stations) id 0 ≡ None = λ k d b. grind (arith, common_steps) in
    let e = find_in-none rs id 0 each in
    cc)
    (λ y some.
    let i : ℕ = some.0 in
    let both : (d : Record) → ◌≡◌ {A = ℕ × Option ℕ} (y.port.0, place_in (listed (get_or rs i d).stations) id 0) (i, Some y.station) = λ d. grind (arith, common_steps) in
    let here : (d : Record) → place_in (listed (get_or rs i d).stations) id 0 ≡ Some y.station = λ d. ap (λ (w : ℕ × Option ℕ). w.1) (both d) in
    let before : (k : ℕ) (d : Record) → k < i → place_in (listed (get_or rs k d).stations) id 0 ≡ None = λ k d b. grind (arith, common_steps) in
    let long : i < length rs = grind (arith, common_steps) in
    let number : y.port.0 ≡ i = by_some (y.port.0 ≡ i) rs i long (λ d. ap (λ (w : ℕ × Option ℕ). w.0) (both d)) in
    let sum : 0 + i ≡ y.port.0 = omega arith in
    sym (ap (λ ps. find_in ps id 0) (sym c.ports.ensures.value) ∙ (find_in-at rs id 0 i y.station long here before ∙ ap (λ n. Some (n, y.station)) sum)))
