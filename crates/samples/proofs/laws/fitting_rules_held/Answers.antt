use Rattle.samples.proofs.Holding.{held_somewhere}
use Rattle.samples.proofs.laws.fitting_rules_held.Goals as goal

pub returns : goal.returns
returns c = held_somewhere
