-- What trying every valuation finds, and the entries that the exhaustive oracle holds.
use Rattle.std.specs.Prelude.{◌≡◌, ℕ, true, false, List, Option, MatchOption, ◌≢◌}
use Rattle.atoms.specs.Clauses.{Valuation, makes_all}
use Rattle.atoms.specs.Sets.{has}
use Rattle.atoms.specs.declared.clauses.Entry.{Entry}
use Rattle.atoms.specs.declared.sets.AtomSet.{AtomSet}
use Rattle.exhaustive.specs.declared.Exhaustive.{Exhaustive}
use Rattle.oracle.specs.Stores.{entries_of}

-- the valuation is the base, but for some of the free atoms
abbrev pub Varies : AtomSet → AtomSet → Valuation → Type 0
Varies free base v = (i : ℕ) → has free i ≡ false → v i ≡ has base i

-- a valuation of that kind that makes every entry true, or there is none
pub record Made (es : List Entry) (free base s : AtomSet) : Type 0 where
  pub varies : Varies free base (has s)
  pub made : makes_all (has s) es ≡ true

abbrev pub FindsAmong : List Entry → AtomSet → AtomSet → Option AtomSet → Type 0
FindsAmong es free base r = MatchOption r ((v : Valuation) → Varies free base v → makes_all v es ≢ true) (λ s. Made es free base s)

-- the entries of each level
abbrev pub exhaustive_entries : Exhaustive → ℕ → List Entry
exhaustive_entries s = entries_of s.store
