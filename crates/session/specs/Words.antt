-- The words in which the refusals of a question and of writing a rule are printed.
use Rattle.std.specs.Prelude.{ℕ, List, ◌++◌, codes, decimal}
use Rattle.modal.specs.Words.{write_words}
use Rattle.session.specs.declared.faults.QuestionFault.{QuestionFault}
use Rattle.session.specs.declared.faults.QuestionFault.TheVariants.{UnknownRule, LevelFull}
use Rattle.session.specs.declared.faults.RuleFault.{RuleFault}
use Rattle.session.specs.declared.faults.RuleFault.TheVariants.{UnknownRule as NotHeld, NotWritten}

abbrev pub unknown_words : ℕ → List ℕ
unknown_words number = codes "no rule has the number " ++ decimal number

abbrev pub question_words : QuestionFault → List ℕ
question_words (UnknownRule number) = unknown_words number
question_words (LevelFull level) = codes "more than 128 learnt entries are needed at level " ++ decimal level

abbrev pub rule_words : RuleFault → List ℕ
rule_words (NotHeld number) = unknown_words number
rule_words (NotWritten fault) = write_words fault
