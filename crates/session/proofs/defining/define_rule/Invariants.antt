use Rattle.naming.specs.Tables.{definitions_at}
use Rattle.session.proofs.Fitting.{DefinedBelow}
use Rattle.session.proofs.defining.define_rule.Given as goal

abbrev pub invariant-loop-level : goal.invariant-loop-level
invariant-loop-level g l = DefinedBelow (g.O.Oracle.entries l.initial.oracle) (g.O.Oracle.entries l.oracle) (definitions_at l.definitions) l.level-index
