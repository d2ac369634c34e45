use Rattle.clausal.proofs.Limits.{few_definitions_lem}
use Rattle.clausal.proofs.laws.few_definitions.Goals as goal

pub returns : goal.returns
returns c = λ st cl l. few_definitions_lem st l cl
