use Rattle.slots.proofs.Aligned.{aligned_belongs, belongs_aligns, unique_place}
use Rattle.slots.proofs.rate.Rate.slot_of.Goals as goal

pub returns-clause-laws : goal.returns-clause-laws
returns-clause-laws c = (aligned_belongs, belongs_aligns, unique_place)

pub returns-in_err-k-clause-laws : goal.returns-in_err-k-clause-laws
returns-in_err-k-clause-laws c = (aligned_belongs, belongs_aligns, unique_place)
