use Rattle.atoms.specs.Sets.{has, count_below}
use Rattle.exhaustive.proofs.+find.Given as goal

-- the number of free atoms
abbrev pub decreases-find : goal.decreases-find
decreases-find l = count_below 64 (has l.free)
