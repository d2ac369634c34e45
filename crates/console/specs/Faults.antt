-- The refusals of the console: the number of each with its detail.
use Rattle.modal.specs.Faults.{Refusal, refusal, read_refusal}
use Rattle.clausal.specs.Faults.{add_refusal}
use Rattle.session.specs.Faults.{question_refusal}
use Rattle.console.specs.declared.faults.InputFault.{InputFault}
use Rattle.console.specs.declared.faults.InputFault.TheVariants.{UnknownKind, CutOff, NotEnded, TooLong}
use Rattle.console.specs.declared.faults.ConsoleFault.{ConsoleFault}
use Rattle.console.specs.declared.faults.ConsoleFault.TheVariants.{Input, Rule, Add, Question}

abbrev pub input_refusal : InputFault → Refusal
input_refusal UnknownKind = refusal 2 0
input_refusal CutOff = refusal 3 0
input_refusal NotEnded = refusal 11 0
input_refusal TooLong = refusal 12 0

abbrev pub console_refusal : ConsoleFault → Refusal
console_refusal (Input fault) = input_refusal fault
console_refusal (Rule fault) = read_refusal fault
console_refusal (Add fault) = add_refusal fault
console_refusal (Question fault) = question_refusal fault
