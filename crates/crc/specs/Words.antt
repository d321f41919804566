-- A word of sixteen bits, by its two bytes.
use Rattle.std.specs.Prelude.{ℕ, ◌+◌, ◌*◌}
use Rattle.crc.specs.declared.table.Word.{Word}

-- what the two bytes are together
abbrev pub value_of : Word → ℕ
value_of w = w.high * 256 + w.low
