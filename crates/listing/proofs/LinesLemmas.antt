-- The lowest configuration, line by line.
use Rattle.std.proofs.Common.{◌≡◌, ℕ, ◌+◌, List, None, refl}
use Rattle.std.proofs.Math.Numerals.{add-one}
use Rattle.std.specs.Option.{option_or}
use Rattle.capture.specs.declared.record.Record.{Record}
use Rattle.listing.specs.Lines.{first_config, lowest_config}

pub lowest_config-zero : (rs : List Record) → lowest_config rs 0 ≡ None
unfolding lowest_config
lowest_config-zero rs = refl

pub lowest_config-one_more : (rs : List Record) (k : ℕ) → lowest_config rs (k + 1) ≡ option_or (lowest_config rs k) (first_config rs k)
unfolding lowest_config
lowest_config-one_more rs k = rw (add-one k) refl
