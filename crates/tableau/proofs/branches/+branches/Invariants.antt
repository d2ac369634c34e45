use Rattle.std.proofs.Common.{◌+◌, ◌*◌}
use Rattle.tableau.specs.Branches.{weights, weights_beyond}
use Rattle.tableau.specs.Claims.{claims_of}
use Rattle.tableau.proofs.branches.+branches.Given as goal

-- a step is lighter than its claim, and a branch is asked before its successors
abbrev pub decreases-is_open : goal.decreases-is_open
decreases-is_open l = 3 * (weights (claims_of l.claims.now) + weights_beyond (claims_of l.settled.everywhere.now) + weights_beyond (claims_of l.settled.somewhere.now)) + 1

abbrev pub decreases-can_be_right : goal.decreases-can_be_right
decreases-can_be_right l = 3 * weights (claims_of l.claims.now) + 2

abbrev pub decreases-each_can_be_right : goal.decreases-each_can_be_right
decreases-each_can_be_right l = 3 * (weights_beyond (claims_of l.everywhere.now) + weights_beyond (claims_of l.claims.now))
