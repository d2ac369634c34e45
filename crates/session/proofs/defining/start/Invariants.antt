use Rattle.std.proofs.Common.{[], ◌∷◌}
use Rattle.session.proofs.Fitting.{DefinedBelow}
use Rattle.session.proofs.defining.start.Given as goal

abbrev pub invariant-loop-level : goal.invariant-loop-level
invariant-loop-level g l = DefinedBelow (g.O.Oracle.entries l.initial.oracle) (g.O.Oracle.entries l.oracle) (λ _. l.first ∷ []) l.level-index
