use Rattle.std.proofs.Common.{ap, ◌∙◌, Err}
use Rattle.std.proofs.lemmas.Result.{err_from_is_err_and}
use Rattle.modal.specs.Rules.{rows_of}
use Rattle.session.proofs.Owing.{owes_added, owes_refused, takes_rule}
use Rattle.session.proofs.session.Session.add.Goals as goal

pub returns-in_err-added-clause-law : goal.returns-in_err-added-clause-law
returns-in_err-added-clause-law g c =
    let told = err_from_is_err_and c.from_residual.result c.from_residual.ensures.1 in
    owes_refused c.args.self.now.table c.add.new.self _ c.args.rule _ _ c.in_err-added.ensures.step (told.1 ∙ ap Err told.2) c.in_err-added.ensures.answer

pub returns-clause-law : goal.returns-clause-law
returns-clause-law g c = owes_added _ c.args.rule _ c.in_ok-added.added.number (c.in_ok-added.ensures.answer) (takes_rule c.args.self.now.table c.add.new.self (rows_of c.args.rule) _ _ _ (c.in_ok-added.ensures.step (g.O.Oracle.entries c.args.self.now.oracle)) c.define_rule.ensures)

pub returns-clause-effect : goal.returns-clause-effect
returns-clause-effect g c = record {
  answered = c.in_ok-added.ensures.answer;
  taken = takes_rule c.args.self.now.table c.add.new.self (rows_of c.args.rule) _ _ _ (c.in_ok-added.ensures.step (g.O.Oracle.entries c.args.self.now.oracle)) c.define_rule.ensures;
  refused = tt;
}
