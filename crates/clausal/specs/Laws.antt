-- The theorems on the clausal form.
use Rattle.std.specs.Prelude.{◌≡◌, ℕ, suc, ◌<◌, ◌≤◌, Bool, true, List, length}
use Rattle.lists.specs.Lists.{In, Once}
use Rattle.modal.specs.Kripke.{Model, world, meets}
use Rattle.modal.specs.Rows.{forms, formula_at, says, lawful}
use Rattle.modal.specs.declared.row.Row.{Row}
use Rattle.atoms.specs.Clauses.{Valuation, obeys_one, definitions}
use Rattle.atoms.specs.declared.clauses.Entry.{Entry}
use Rattle.atoms.specs.declared.clauses.Literal.{Literal}
use Rattle.clausal.specs.Adding.{Fresh, Adds}
use Rattle.clausal.specs.Clausal.{Clausal}
use Rattle.clausal.specs.Counting.{places_of}
use Rattle.clausal.specs.Places.{Reached, lit}
use Rattle.clausal.specs.States.{State, rule_at, signed, at_world, Forced, handle_of}
use Rattle.clausal.specs.Trees.{Tree, root, Complete, worlds}
use Rattle.clausal.specs.declared.modal_clauses.ModalClause.{ModalClause}
use Rattle.clausal.specs.declared.places.Place.{Place}

-- the places that are counted are the reached ones, each once
pub record CountsReached (rows : List Row) : Type 0 where
  pub every : (p : Place) → Reached rows p → In p (places_of rows)
  pub only : (p : Place) → In p (places_of rows) → Reached rows p
  pub once : Once (places_of rows)

abbrev pub PlacesCounted : Type 0
PlacesCounted = (rows : List Row) → lawful rows ≡ true → CountsReached rows

-- a new session is the clausal form of no rules, and stays the clausal form of its rules when one is added
pub record FormKept : Type 0 where
  pub begun : (st : State) → Fresh st → Clausal st
  pub kept : (st : State) (rows : List Row) (after : State) → Clausal st → Adds st rows after → Clausal after

-- a level never needs more than 97 definitions
abbrev pub FewDefinitions : Type 0
FewDefinitions = (st : State) → Clausal st → (l : ℕ) → length (definitions (st.entries l)) ≤ 97

-- every definition is true at every world of every Kripke model
abbrev pub DefinitionsForced : Type 0
DefinitionsForced = (st : State) → Clausal st → (l : ℕ) (e : Entry) → In e (definitions (st.entries l)) → Forced st l e.clause

-- box and diamond clauses read right: where the name is true, the literal is true at every successor, or at some
pub record ReadRight (st : State) (l : ℕ) (u v : Valuation) (m : Model) (w : ℕ) : Type 0 where
  pub boxes : (b : ModalClause) → In b (st.boxes l) → at_world st l u m.worlds w b.name ≡ true → (x : ℕ) → In x (world m.worlds w).successors → obeys_one (at_world st (suc l) v m.worlds x) b.literal ≡ true
  pub diamonds : (d : ModalClause) → In d (st.diamonds l) → at_world st l u m.worlds w d.name ≡ true → (x : ℕ) × In x (world m.worlds w).successors × (obeys_one (at_world st (suc l) v m.worlds x) d.literal ≡ true)

abbrev pub ModalClausesRead : Type 0
ModalClausesRead = (st : State) → Clausal st → (l : ℕ) (u v : Valuation) (m : Model) (w : ℕ) → w < length m.worlds → ReadRight st l u v m w

-- a tree is a Kripke model whose root meets the formula of every place whose literal its valuation obeys, and every rule whose handle is in
pub record RootMeets (st : State) (l : ℕ) (t : Tree) : Type 0 where
  pub model : Model
  pub laid : model.worlds ≡ worlds 0 t
  pub places : (r k : ℕ) (s : Bool) → r < length st.rules → Reached (rule_at st r) (record { row = k; plus = s; level = l }) → obeys_one (root t) (lit st r l s k) ≡ true → meets (signed s (formula_at (forms (rule_at st r)) k)) (worlds 0 t) 0 ≡ true
  pub handles : (r : ℕ) → r < length st.rules → l ≡ 0 → root t (handle_of st r) ≡ true → meets (says (rule_at st r)) (worlds 0 t) 0 ≡ true

abbrev pub CompleteMeets : Type 0
CompleteMeets = (st : State) → Clausal st → (l : ℕ) (xs : List Literal) (t : Tree) → Complete st l xs t → RootMeets st l t
