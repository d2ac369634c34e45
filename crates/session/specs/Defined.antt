-- What an oracle is handed: definitions, as many as each level has room for.
use Rattle.std.specs.Prelude.{◌≡◌, ℕ, ◌-◌, ◌<◌, ◌≤◌, List, ◌++◌, map, length, take, ◌≢◌}
use Rattle.atoms.specs.Clauses.{definitions}
use Rattle.atoms.specs.declared.clauses.Clause.{Clause}
use Rattle.atoms.specs.declared.clauses.Entry.{Entry}
use Rattle.naming.specs.Tables.{definition}
use Rattle.oracle.specs.Oracles.{Lists}

-- the entries with new definitions after them, as many as a level has room for
abbrev pub with_fitting : List Entry → List Entry → List Entry
with_fitting es new = es ++ take (97 - length (definitions es)) new

-- a level gets definitions of these clauses, as far as it has room, and no other level is altered
pub record Defined (before after : Lists) (level : ℕ) (clauses : List Clause) : Type 0 where
  pub others : (k : ℕ) → (k ≢ level) → after k ≡ before k
  pub here : after level ≡ with_fitting (before level) (map definition clauses)

-- each of the levels 0 to 7 gets definitions of its clauses, as far as it has room
pub record AllDefined (before after : Lists) (clauses : ℕ → List Clause) : Type 0 where
  pub levels : (l : ℕ) → l < 8 → after l ≡ with_fitting (before l) (map definition (clauses l))
  pub beyond : (l : ℕ) → 8 ≤ l → after l ≡ before l
