-- A question and its answer, as the law speaks of them.
use Rattle.std.specs.Prelude.{ℕ, List, Some, None, Ok, Err, filter, Option, Result}
use Rattle.std.specs.List.{range_with_len}
use Rattle.atoms.specs.Bits.{bit}
use Rattle.law.specs.Calls.{Reply, opened, closed, refused}
use Rattle.session.specs.Faults.{question_refusal}
use Rattle.session.specs.declared.faults.QuestionFault.{QuestionFault}
use Rattle.session.specs.declared.faults.QuestionFault.TheVariants.{UnknownRule, LevelFull}
use Rattle.session.specs.declared.verdict.Verdict.{Verdict}
use Rattle.session.specs.declared.verdict.Verdict.TheVariants.{Open, Closed}

-- the rules that a number of 16 bits stands for: rule k by bit k
unfoldable pub numbers_of : ℕ → List ℕ
numbers_of q = filter (bit q) (range_with_len 0 16)

abbrev pub question_reply : Result Verdict QuestionFault → Reply
question_reply (Ok (Open count)) = opened count
question_reply (Ok (Closed core)) = closed (numbers_of core)
question_reply (Err fault) = refused (question_refusal fault).number (question_refusal fault).detail

-- the number of the rule that is not accepted, if that is why a question was refused
abbrev pub unknown_in : Result Verdict QuestionFault → Option ℕ
unknown_in (Ok _) = None
unknown_in (Err (UnknownRule number)) = Some number
unknown_in (Err (LevelFull _)) = None
