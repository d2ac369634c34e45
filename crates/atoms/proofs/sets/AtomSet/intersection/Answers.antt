use Rattle.atoms.proofs.Members.{has_and}
use Rattle.atoms.proofs.sets.AtomSet.intersection.Goals as goal

pub returns : goal.returns
returns c i = has_and _ _ i
