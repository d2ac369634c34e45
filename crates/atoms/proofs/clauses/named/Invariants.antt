use Rattle.std.proofs.Common.{◌≡◌, ℕ, take}
use Rattle.atoms.specs.Clauses.{names}
use Rattle.atoms.specs.Sets.{has}
use Rattle.atoms.proofs.clauses.named.Given as goal

abbrev pub invariant-loop-entry : goal.invariant-loop-entry
invariant-loop-entry l = (i : ℕ) → has l.all i ≡ names (take l.entry-index l.entries) i
