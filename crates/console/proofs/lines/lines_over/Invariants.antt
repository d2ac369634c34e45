use Rattle.std.proofs.Common.{take}
use Rattle.session.specs.View.{view}
use Rattle.console.proofs.Saying.{Leads}
use Rattle.console.proofs.lines.lines_over.Given as goal

abbrev pub invariant-loop-piece : goal.invariant-loop-piece
invariant-loop-piece g l = Leads l.input (take l.piece-index l.piece-items) l.lines.items (view g.O.Oracle.entries l.session)
