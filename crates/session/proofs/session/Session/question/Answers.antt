use Rattle.std.proofs.Common.{Err, ap, ◌∙◌}
use Rattle.std.proofs.lemmas.Result.{err_from_is_err_and}
use Rattle.session.proofs.Questioning.{closed_effect, closed_owes, full_effect, full_owes, open_effect, open_owes, unknown_effect, unknown_owes}
use Rattle.session.proofs.session.Session.question.Goals as goal

pub returns-in_err-under-clause-law : goal.returns-in_err-under-clause-law
returns-in_err-under-clause-law g c =
    let told = err_from_is_err_and c.from_residual.result c.from_residual.ensures.1 in
    unknown_owes g.O.Oracle.entries c.args.self.now c.args.rules c.args.sheet.now _ c.in_err-under.ensures _ (told.1 ∙ ap Err told.2)

pub returns-in_err-under-clause-effect : goal.returns-in_err-under-clause-effect
returns-in_err-under-clause-effect g c =
    let told = err_from_is_err_and c.from_residual.result c.from_residual.ensures.1 in
    unknown_effect g.O.Oracle.entries c.args.self.now c.args.rules c.args.sheet.now _ c.in_err-under.ensures _ (told.1 ∙ ap Err told.2)

pub returns-in-Open-clause-law : goal.returns-in-Open-clause-law
returns-in-Open-clause-law g c = open_owes g.O.Oracle.entries c.args.self.now c.args.rules c.args.sheet.now _ c.in_ok-under.ensures c.ask.new.oracle c.ask.new.sheet c.in-Open.count c.in-Open.ensures

pub returns-in-Open-clause-effect : goal.returns-in-Open-clause-effect
returns-in-Open-clause-effect g c = open_effect g.O.Oracle.entries c.args.self.now c.args.rules c.args.sheet.now _ c.in_ok-under.ensures c.ask.new.oracle c.ask.new.sheet c.in-Open.count c.in-Open.ensures

pub returns-in-Closed-clause-law : goal.returns-in-Closed-clause-law
returns-in-Closed-clause-law g c = closed_owes g.O.Oracle.entries c.args.self.now c.args.rules c.args.sheet.now _ c.in_ok-under.ensures c.ask.new.oracle c.ask.new.sheet c.in-Closed.core c.in-Closed.ensures c.kept_in.result c.kept_in.ensures

pub returns-in-Closed-clause-effect : goal.returns-in-Closed-clause-effect
returns-in-Closed-clause-effect g c = closed_effect g.O.Oracle.entries c.args.self.now c.args.rules c.args.sheet.now _ c.in_ok-under.ensures c.ask.new.oracle c.ask.new.sheet c.in-Closed.core c.in-Closed.ensures c.kept_in.result c.kept_in.ensures

pub returns-in-Full-clause-law : goal.returns-in-Full-clause-law
returns-in-Full-clause-law g c = full_owes g.O.Oracle.entries c.args.self.now c.args.rules c.args.sheet.now _ c.in_ok-under.ensures c.ask.new.oracle c.ask.new.sheet c.in-Full.level c.in-Full.ensures

pub returns-in-Full-clause-effect : goal.returns-in-Full-clause-effect
returns-in-Full-clause-effect g c = full_effect g.O.Oracle.entries c.args.self.now c.args.rules c.args.sheet.now _ c.in_ok-under.ensures c.ask.new.oracle c.ask.new.sheet c.in-Full.level c.in-Full.ensures
