use Rattle.std.proofs.Common.{◌≡◌, ◌-◌, ◌^◌, ◌<◌, true, take}
use Rattle.plain.specs.Counts.{Part}
use Rattle.atoms.specs.Clauses.{makes_all}
use Rattle.atoms.specs.Sets.{has}
use Rattle.plain.proofs.Completing.{Fail}
use Rattle.plain.proofs.count.Given as goal

-- the parts of the free atoms before the one counted have failed
abbrev pub invariant-next : goal.invariant-next
invariant-next l = Part l.counted.bits l.free.bits × Fail l.entries l.under l.free.bits (λ u. u < l.counted.bits) × (l.counted.bits < 2 ^ 64)

abbrev pub decreases-next : goal.decreases-next
decreases-next l = l.free.bits - l.counted.bits

abbrev pub invariant-loop-entry : goal.invariant-loop-entry
invariant-loop-entry l = (makes_all (has l.valuation) (take l.entry-index l.entries) ≡ true) × (l.counted ≡ l.initial.counted)
