use Rattle.naming.proofs.reached.ReachedRule.+literal.Given as goal

abbrev pub decreases-literal : goal.decreases-literal
decreases-literal l = l.row
