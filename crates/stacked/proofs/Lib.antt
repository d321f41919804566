mod Drains
mod Ticks
mod Takes
mod Law
