use Rattle.std.proofs.Common.{refl, ap, ◌∙◌, Ok, Err}
use Rattle.std.proofs.lemmas.Result.{err_from_is_err_and}
use Rattle.session.specs.Replies.{question_reply}
use Rattle.console.specs.Carrying.{answer_line}
use Rattle.console.proofs.Carrying.{offset_read, adds, asks}
use Rattle.console.proofs.lines.carry_out.Goals as goal

pub returns-in_err-read-in-Add-clause-offset : goal.returns-in_err-read-in-Add-clause-offset
returns-in_err-read-in-Add-clause-offset g c =
    let made = err_from_is_err_and c.from_residual-in_err-read-in-Add.result c.from_residual-in_err-read-in-Add.ensures.1 in
    rw (made.1 ∙ ap Err made.2) (offset_read c.args.input.now c.args.piece c.in-Add.start c.in_err-read-in-Add.field-0.0 c.requires (c.in_ok-start.was ∙ ap Ok c.in-Add.is) (c.in_err-read-in-Add.ensures.0))

pub returns-in_err-add-in-Add-clause-done : goal.returns-in_err-add-in-Add-clause-done
returns-in_err-add-in-Add-clause-done g c =
    let made = err_from_is_err_and c.from_residual-in_err-add-in-Add.result c.from_residual-in_err-add-in-Add.ensures.1 in
    adds c.args.input.now c.args.piece _ _ _ _ (ap (answer_line c.args.piece) (made.1 ∙ ap Err made.2)) c.in-Add.start _ (c.in_ok-start.was ∙ ap Ok c.in-Add.is) (c.in_ok-read-in-Add.ensures.0) (c.in_err-add-in-Add.ensures.law)

pub returns-in_err-question-in-Ask-clause-done : goal.returns-in_err-question-in-Ask-clause-done
returns-in_err-question-in-Ask-clause-done g c =
    let made = err_from_is_err_and c.from_residual-in_err-question-in-Ask.result c.from_residual-in_err-question-in-Ask.ensures.1 in
    asks c.args.input.now c.args.piece _ _ _ _ (ap (answer_line c.args.piece) (made.1 ∙ ap Err made.2)) c.in-Ask.rules (c.in_ok-start.was ∙ ap Ok c.in-Ask.is) (c.in_err-question-in-Ask.ensures.law)

pub returns-in_ok-add-in-Add-clause-done : goal.returns-in_ok-add-in-Add-clause-done
returns-in_ok-add-in-Add-clause-done g c = adds c.args.input.now c.args.piece _ _ _ _ refl c.in-Add.start _ (c.in_ok-start.was ∙ ap Ok c.in-Add.is) (c.in_ok-read-in-Add.ensures.0) (c.in_ok-add-in-Add.ensures.law)

pub returns-in-Open-clause-done : goal.returns-in-Open-clause-done
returns-in-Open-clause-done g c = asks c.args.input.now c.args.piece _ _ (question_reply (Ok c.in_ok-question-in-Ask.field-0)) _ (rw c.in-Open.is refl) c.in-Ask.rules (c.in_ok-start.was ∙ ap Ok c.in-Ask.is) (c.in_ok-question-in-Ask.ensures.law)

pub returns-in-Closed-clause-done : goal.returns-in-Closed-clause-done
returns-in-Closed-clause-done g c = asks c.args.input.now c.args.piece _ _ (question_reply (Ok c.in_ok-question-in-Ask.field-0)) _ (rw c.in-Closed.is (c.in-Closed.core, refl, refl)) c.in-Ask.rules (c.in_ok-start.was ∙ ap Ok c.in-Ask.is) (c.in_ok-question-in-Ask.ensures.law)
