use Rattle.firing.proofs.Choosing.{ChosenSoFar}
use Rattle.firing.proofs.Rising.{RisingAtoms}
use Rattle.firing.proofs.learning.learnt_clause.Given as goal

abbrev pub invariant-loop-fired : goal.invariant-loop-fired
invariant-loop-fired l = RisingAtoms l.fn.diamond l.yielded → ChosenSoFar l.fn.diamond l.fn.core l.uncovered l.yielded l.clause
