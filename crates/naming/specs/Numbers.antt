-- For proofs alone: the numbers of places: level by level, row by row, plus before minus.
use Rattle.std.specs.Prelude.{ℕ, ◌+◌, ◌*◌, ◌/◌, ◌%◌, cond, ◌==◌}
use Rattle.clausal.specs.declared.places.Place.{Place}

abbrev pub number_of : Place → ℕ
number_of p = p.level * 128 + p.row * 2 + cond p.plus 0 1

abbrev pub place_numbered : ℕ → Place
place_numbered n = record { row = n % 128 / 2; plus = (n % 2 == 0); level = n / 128 }
