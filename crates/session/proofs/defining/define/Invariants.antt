use Rattle.session.specs.Defined.{Defined}
use Rattle.std.proofs.Common.{take}
use Rattle.session.proofs.defining.define.Given as goal

abbrev pub invariant-loop-clause : goal.invariant-loop-clause
invariant-loop-clause g l = Defined (g.O.Oracle.entries l.initial.oracle) (g.O.Oracle.entries l.oracle) l.level (take l.clause-index l.clauses)
