-- What a writer holds.
use Rattle.std.specs.Prelude.{ℕ, List, vec_items}
use Rattle.rule_writer.specs.declared.Writer.{Writer}

-- the bytes of the rows so far
abbrev pub bytes_in : Writer → List ℕ
bytes_in w = vec_items w.bytes

-- the number that the next row gets; beyond row 255, which no rule has, numbers do not go up
abbrev pub next_number : Writer → ℕ
next_number w = w.rows
