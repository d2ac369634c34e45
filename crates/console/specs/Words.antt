-- The words in which the refusals of the console are printed.
use Rattle.std.specs.Prelude.{ℕ, List, ◌++◌, codes}
use Rattle.modal.specs.Words.{read_words}
use Rattle.clausal.specs.Words.{add_words}
use Rattle.session.specs.Words.{question_words}
use Rattle.console.specs.declared.faults.InputFault.{InputFault}
use Rattle.console.specs.declared.faults.InputFault.TheVariants.{UnknownKind, CutOff, NotEnded, TooLong}
use Rattle.console.specs.declared.faults.ConsoleFault.{ConsoleFault}
use Rattle.console.specs.declared.faults.ConsoleFault.TheVariants.{Input, Rule, Add, Question}

abbrev pub input_words : InputFault → List ℕ
input_words UnknownKind = codes "the kind is over 0a"
input_words CutOff = codes "the body is cut off"
input_words NotEnded = codes "the rows before are not added"
input_words TooLong = codes "there are more than 65536 bytes"

abbrev pub console_words : ConsoleFault → List ℕ
console_words (Input fault) = codes "the input: " ++ input_words fault
console_words (Rule fault) = codes "the rule, " ++ read_words fault
console_words (Add fault) = codes "adding: " ++ add_words fault
console_words (Question fault) = codes "the question: " ++ question_words fault
