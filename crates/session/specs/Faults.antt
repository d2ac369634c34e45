-- The refusals of a question and of writing a rule that a session holds: the number of each with its detail.
use Rattle.modal.specs.Faults.{Refusal, refusal, write_refusal}
use Rattle.session.specs.declared.faults.QuestionFault.{QuestionFault}
use Rattle.session.specs.declared.faults.QuestionFault.TheVariants.{UnknownRule, LevelFull}
use Rattle.session.specs.declared.faults.RuleFault.{RuleFault}
use Rattle.session.specs.declared.faults.RuleFault.TheVariants.{UnknownRule as NotHeld, NotWritten}

abbrev pub question_refusal : QuestionFault → Refusal
question_refusal (UnknownRule number) = refusal 8 number
question_refusal (LevelFull level) = refusal 22 level

abbrev pub rule_refusal : RuleFault → Refusal
rule_refusal (NotHeld number) = refusal 8 number
rule_refusal (NotWritten fault) = write_refusal fault
