use Rattle.session.specs.Assumed.{KeepsIn}
use Rattle.session.proofs.asking.kept_in.Given as goal

abbrev pub invariant-loop-number : goal.invariant-loop-number
invariant-loop-number l = KeepsIn l.table l.rules l.core l.number l.kept
