use Rattle.session.proofs.Owing.{owes_forget}
use Rattle.session.proofs.session.Session.forget.Goals as goal

pub returns-clause-law : goal.returns-clause-law
returns-clause-law g c = owes_forget c.args.self.now.table _ _ c.forget.ensures
