-- The words in which the refusal of a sheet is printed.
use Rattle.std.specs.Prelude.{ℕ, List, ◌++◌, codes, decimal}
use Rattle.sheet.specs.declared.faults.SheetFault.{SheetFault}
use Rattle.sheet.specs.declared.faults.SheetFault.TheVariants.{NoRoot, Unlawful}

abbrev pub sheet_words : SheetFault → List ℕ
sheet_words NoRoot = codes "it is empty or its first row is blank"
sheet_words (Unlawful row) = codes "row " ++ (decimal row ++ codes " is not lawful")
