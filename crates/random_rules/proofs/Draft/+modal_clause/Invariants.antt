use Rattle.std.proofs.Common.{◌+◌, ◌*◌}
use Rattle.random_rules.proofs.Draft.+modal_clause.Given as goal

-- a clause asks for literals of its depth, a literal for a box or diamond over a clause that is less deep
abbrev pub decreases-clause : goal.decreases-clause
decreases-clause l = 3 * l.depth + 2

abbrev pub decreases-literal : goal.decreases-literal
decreases-literal l = 3 * l.depth + 1

abbrev pub decreases-modal : goal.decreases-modal
decreases-modal l = 3 * l.depth + 3
