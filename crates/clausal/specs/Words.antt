-- The words in which the refusal of a rule is printed.
use Rattle.std.specs.Prelude.{ℕ, List, ◌++◌, codes, decimal}
use Rattle.clausal.specs.declared.faults.AddFault.{AddFault}
use Rattle.clausal.specs.declared.faults.AddFault.TheVariants.{TooManyRules, TooManyNames}

abbrev pub add_words : AddFault → List ℕ
add_words TooManyRules = codes "16 rules are held"
add_words (TooManyNames level) = codes "more than 48 names at level " ++ decimal level
