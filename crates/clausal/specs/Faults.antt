-- The refusals of adding a rule: the number of each with its detail.
use Rattle.modal.specs.Faults.{Refusal, refusal}
use Rattle.clausal.specs.declared.faults.AddFault.{AddFault}
use Rattle.clausal.specs.declared.faults.AddFault.TheVariants.{TooManyRules, TooManyNames}

abbrev pub add_refusal : AddFault → Refusal
add_refusal TooManyRules = refusal 20 0
add_refusal (TooManyNames level) = refusal 21 level
