use Rattle.session.specs.View.{view}
use Rattle.session.proofs.Running.{Leads}
use Rattle.session.proofs.runs.run.Given as goal

abbrev pub invariant-loop-call : goal.invariant-loop-call
invariant-loop-call g l = Leads l.yielded l.replies.items (view g.O.Oracle.entries l.session)
