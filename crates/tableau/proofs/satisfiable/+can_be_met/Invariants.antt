use Rattle.std.proofs.Common.{length}
use Rattle.tableau.proofs.satisfiable.+can_be_met.Given as goal

abbrev pub decreases-can_be_met : goal.decreases-can_be_met
decreases-can_be_met l = length l.rules.now
