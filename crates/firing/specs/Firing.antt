-- Which box and diamond clauses fire under a valuation, what the part of a fired diamond clause is tried under, and which clause is learnt from a core of that part.
use Rattle.std.specs.Prelude.{◌≡◌, ℕ, ◌<◌, ◌≤◌, true, List, ◌∷◌, ◌≢◌}
use Rattle.lists.specs.Lists.{In}
use Rattle.atoms.specs.Assuming.{assumes}
use Rattle.atoms.specs.Clauses.{Valuation, negation}
use Rattle.atoms.specs.Sets.{has}
use Rattle.atoms.specs.declared.assumptions.Assumptions.{Assumptions}
use Rattle.atoms.specs.declared.clauses.Clause.{Clause}
use Rattle.atoms.specs.declared.clauses.Literal.{Literal}
use Rattle.atoms.specs.declared.sets.AtomSet.{AtomSet}
use Rattle.clausal.specs.Clausal.{ClauseOf}
use Rattle.clausal.specs.Questions.{negations}
use Rattle.clausal.specs.States.{fired, literals}
use Rattle.clausal.specs.declared.modal_clauses.ModalClause.{ModalClause}

-- what is assumed is just these literals, as far as these are of atoms 0 to 63
pub record AssumesJust (w : Assumptions) (xs : List Literal) : Type 0 where
  pub each : (x : Literal) → In x xs → x.atom < 64 → assumes w x ≡ true
  pub only : (x : Literal) → assumes w x ≡ true → In x xs

-- the set is of the names of these clauses
pub record NamesOf (s : AtomSet) (ds : List ModalClause) : Type 0 where
  pub each : (d : ModalClause) → In d ds → has s d.name ≡ true
  pub only : (a : ℕ) → has s a ≡ true → (d : ModalClause) × In d ds × (d.name ≡ a)

-- the clause learnt from a core of the part of a fired diamond clause: the negations of the diamond's name and, for each other literal of the core that a fired box clause has, of the lowest name of such a clause
pub record LearntFromCore (boxes : List ModalClause) (v : Valuation) (d : ModalClause) (core : Assumptions) (c : Clause) : Type 0 where
  pub chosen : List ModalClause
  pub fire : (b : ModalClause) → In b chosen → In b (fired v boxes)
  pub wanted : (b : ModalClause) → In b chosen → (assumes core b.literal ≡ true) × (b.literal ≢ d.literal)
  pub lowest : (b a : ModalClause) → In b chosen → In a (fired v boxes) → a.literal ≡ b.literal → b.name ≤ a.name
  pub covers : (x : Literal) → assumes core x ≡ true → (x ≢ d.literal) → In x (literals (fired v boxes)) → (b : ModalClause) × In b chosen × (b.literal ≡ x)
  pub is : ClauseOf (negation d.name ∷ negations chosen) c
