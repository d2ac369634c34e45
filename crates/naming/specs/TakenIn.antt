-- For proofs alone: what the names of a rule give, and what taking in the rule appends, level by level.
use Rattle.std.specs.Prelude.{◌≡◌, ℕ, suc, ◌+◌, ◌-◌, ◌<◌, ◌≤◌, true, List, [], ◌∷◌, ◌++◌, map, length, slice_index_or}
use Rattle.modal.specs.declared.row.Row.{Row}
use Rattle.modal.specs.declared.row.Row.TheVariants.{False}
use Rattle.atoms.specs.Clauses.{clause_from, negation}
use Rattle.atoms.specs.declared.clauses.Clause.{Clause}
use Rattle.atoms.specs.declared.clauses.Literal.{Literal}
use Rattle.clausal.specs.Clausal.{gather, boxed, diamonded, shape, defines, modals}
use Rattle.clausal.specs.declared.modal_clauses.ModalClause.{ModalClause}
use Rattle.clausal.specs.declared.names.Name.{Name}
use Rattle.clausal.specs.declared.names.Name.TheVariants.{Free as free, Place as place, Handle as handle}
use Rattle.clausal.specs.declared.shapes.Shape.{Shape}
use Rattle.clausal.specs.declared.shapes.Shape.TheVariants.{Plain, Both, Either, All, One}
use Rattle.naming.specs.Levels.{LevelLists}
use Rattle.naming.specs.Names.{literal_in, names_for}

-- the definitions that name n of rule r gives, over the names of its level, each as its list of literals
abbrev pub definitions_of_name : List Name → ℕ → List Row → ℕ → Name → List (List Literal)
definitions_of_name xs r rows n free = []
definitions_of_name xs r rows n (place _ k s) = defines n (literal_in xs r rows s) (shape (slice_index_or rows k False) s)
definitions_of_name xs r rows n (handle _) = (negation n ∷ literal_in xs r rows true (length rows - 1) ∷ []) ∷ []

abbrev pub clauses_of_name : List Name → ℕ → List Row → ℕ → Name → List Clause
clauses_of_name xs r rows n x = map clause_from (definitions_of_name xs r rows n x)

-- the box or diamond clauses that it gives, over the names of the next level
abbrev pub modals_of_name : (Shape → List ℕ) → List Name → ℕ → List Row → ℕ → Name → List ModalClause
modals_of_name under xs r rows n free = []
modals_of_name under xs r rows n (place _ k s) = modals n (literal_in xs r rows s) (under (shape (slice_index_or rows k False) s))
modals_of_name under xs r rows n (handle _) = []

-- a name that stands for a row stands for one of the rule's
abbrev pub NameInRule : List Row → Name → Type 0
NameInRule rows free = Unit {0}
NameInRule rows (place _ k s) = k < length rows
NameInRule rows (handle _) = Unit {0}

-- the rows that a shape leads to are the rule's
abbrev pub ShapeInRule : List Row → Shape → Type 0
ShapeInRule rows Plain = Unit {0}
ShapeInRule rows (Both c e) = (c < length rows) × (e < length rows)
ShapeInRule rows (Either c e) = (c < length rows) × (e < length rows)
ShapeInRule rows (All c) = c < length rows
ShapeInRule rows (One c) = c < length rows

-- at level l, with the names one level further as they then are, and the definitions that the new names give
pub record TakenAt (r : ℕ) (rows : List Row) (l : ℕ) (further : List Name) (before after : LevelLists) (given : List Clause) : Type 0 where
  pub names : after.names ≡ before.names ++ names_for r rows l
  pub room : length after.names ≤ 48
  pub boxes : after.boxes ≡ before.boxes ++ gather (modals_of_name boxed further r rows) (16 + length before.names) (names_for r rows l)
  pub diamonds : after.diamonds ≡ before.diamonds ++ gather (modals_of_name diamonded further r rows) (16 + length before.names) (names_for r rows l)
  pub clauses : given ≡ gather (clauses_of_name after.names r rows) (16 + length before.names) (names_for r rows l)

abbrev pub TakenIn : ℕ → List Row → (ℕ → LevelLists) → (ℕ → LevelLists) → (ℕ → List Clause) → Type 0
TakenIn r rows before after given = (l : ℕ) → TakenAt r rows l (after (suc l)).names (before l) (after l) (given l)
