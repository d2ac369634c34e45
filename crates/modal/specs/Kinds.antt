-- The byte that stands for each kind of row.
use Rattle.std.specs.Prelude.{ℕ}
use Rattle.modal.specs.declared.kind.Kind.{Kind}
use Rattle.modal.specs.declared.kind.Kind.TheVariants as kind
use Rattle.modal.specs.declared.row.Row.{Row}
use Rattle.modal.specs.declared.row.Row.TheVariants as row

abbrev pub byte_of : Kind → ℕ
byte_of kind.False = 0
byte_of kind.True = 1
byte_of kind.Letter = 2
byte_of kind.Not = 3
byte_of kind.And = 4
byte_of kind.Or = 5
byte_of kind.Box = 6
byte_of kind.Diamond = 7

abbrev pub kind_of : Row → Kind
kind_of row.False = kind.False
kind_of row.True = kind.True
kind_of (row.Letter a) = kind.Letter
kind_of (row.Not c) = kind.Not
kind_of (row.And c e) = kind.And
kind_of (row.Or c e) = kind.Or
kind_of (row.Box c) = kind.Box
kind_of (row.Diamond c) = kind.Diamond
