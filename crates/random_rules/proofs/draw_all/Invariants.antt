use Rattle.std.proofs.Common.{◌≡◌, length}
use Rattle.random_rules.proofs.draw_all.Given as goal

-- as many rules as were counted, of those that are wanted
abbrev pub invariant-loop : goal.invariant-loop
invariant-loop l = (length l.rules.items ≡ l.counter) × (l.count ≡ l.fn.count)
