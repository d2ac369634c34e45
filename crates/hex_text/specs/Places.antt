-- For proofs alone: what a text that is being read holds.
use Rattle.std.specs.Prelude.{ℕ}
use Rattle.hex_text.specs.declared.place.Place.{Place}
use Rattle.hex_text.specs.declared.place.Place.TheVariants.{Blank, Digit, Number, Comment}

-- the value of the number's first digit
abbrev pub digit_held : Place → ℕ
digit_held Blank = 0
digit_held (Digit high) = high
digit_held Number = 0
digit_held Comment = 0
