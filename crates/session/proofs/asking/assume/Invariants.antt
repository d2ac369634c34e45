use Rattle.session.specs.Assumed.{Assumes}
use Rattle.session.proofs.asking.assume.Given as goal

abbrev pub invariant-loop-number : goal.invariant-loop-number
invariant-loop-number l = Assumes l.table l.rules l.number l.under
