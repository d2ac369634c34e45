use Rattle.std.proofs.Common.{◌≡◌, ℕ, ◌<◌, ◌≤◌}
use Rattle.atoms.specs.Clauses.{definitions}
use Rattle.oracle.specs.Stores.{entries_in}
use Rattle.oracle.proofs.store.Store.forget.Given as goal

abbrev pub invariant-loop-level : goal.invariant-loop-level
invariant-loop-level l =
    ((k : ℕ) → k < l.level-index → entries_in l.level-items k ≡ definitions (entries_in l.fn.self.levels k))
    × ((k : ℕ) → l.level-index ≤ k → entries_in l.level-items k ≡ entries_in l.fn.self.levels k)
