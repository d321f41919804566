use Rattle.slots.proofs.Stamped.{window_spans}
use Rattle.slots.proofs.rate.Rate.fits_window.Goals as goal

pub returns-clause-laws : goal.returns-clause-laws
returns-clause-laws c = window_spans
