use Rattle.std.proofs.Common.{length}
use Rattle.console.specs.Splitting.{Found}
use Rattle.console.proofs.pieces.pieces.Given as goal

abbrev pub invariant-loop-kind : goal.invariant-loop-kind
invariant-loop-kind l = Found l.input l.found.items l.start l.rest

abbrev pub decreases-loop-kind : goal.decreases-loop-kind
decreases-loop-kind l = length l.rest
