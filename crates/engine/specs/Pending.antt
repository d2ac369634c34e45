-- For proofs alone: which diamond clause a world visits next.
use Rattle.std.specs.Prelude.{◌≡◌, ℕ, false, ◌⊎◌, List, MatchOption, Option, ◌≢◌}
use Rattle.lists.specs.Lists.{In}
use Rattle.atoms.specs.Sets.{has, LowestIn}
use Rattle.atoms.specs.declared.sets.AtomSet.{AtomSet}
use Rattle.clausal.specs.declared.modal_clauses.ModalClause.{ModalClause}

-- the clause is listed, and its name is the lowest of those still to visit
pub record NextIs (ds : List ModalClause) (unvisited : AtomSet) (d : ModalClause) : Type 0 where
  pub listed : In d ds
  pub lowest : LowestIn unvisited d.name

-- no name is still to visit, or no clause has the lowest
abbrev pub NoneNext : List ModalClause → AtomSet → Type 0
NoneNext ds unvisited = ((a : ℕ) → has unvisited a ≡ false) ⊎ ((a : ℕ) × LowestIn unvisited a × ((d : ModalClause) → In d ds → d.name ≢ a))

abbrev pub NextOf : List ModalClause → AtomSet → Option ModalClause → Type 0
NextOf ds unvisited r = MatchOption r (NoneNext ds unvisited) (λ d. NextIs ds unvisited d)
