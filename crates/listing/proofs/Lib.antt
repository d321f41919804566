mod InputLemmas
mod LinesLemmas
mod WaitsLemmas
mod BuildsLemmas
