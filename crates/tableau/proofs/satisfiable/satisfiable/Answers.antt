use Rattle.std.proofs.Common.{map}
use Rattle.modal.specs.Rules.{rows_of}
use Rattle.tableau.proofs.Saying.{decided}
use Rattle.tableau.proofs.satisfiable.satisfiable.Goals as goal

pub returns : goal.returns
returns c = decided (map rows_of c.args.rules.now) _ c.can_be_met.ensures
