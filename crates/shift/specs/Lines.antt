-- The shift of each line.
use Rattle.std.specs.Prelude.{List, ℤ, pos, slice_index_or}
use Rattle.feed.specs.Maps.{Map}
use Rattle.shift.specs.Shifts.{shifted}
use Rattle.shift.specs.Lengths.{length-shifted}

-- each frame is moved by its line's shift; a line without one has its frames as they are
abbrev pub by_line : List ℤ → Map
by_line shifts =
    record {
      on = λ port bytes. shifted (slice_index_or shifts port (pos 0)) bytes;
      keeps = λ port bytes. length-shifted (slice_index_or shifts port (pos 0)) bytes;
    }
