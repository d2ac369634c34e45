-- What a question promises, by its outcome, of every session that it can be asked in.
use Rattle.std.specs.Prelude.{◌≡◌, ℕ, suc, ◌<◌, ◌≤◌, true, List, length}
use Rattle.lists.specs.Lists.{In}
use Rattle.atoms.specs.Assuming.{assumes}
use Rattle.atoms.specs.Clauses.{Valuation, learnt}
use Rattle.atoms.specs.declared.assumptions.Assumptions.{Assumptions}
use Rattle.atoms.specs.declared.clauses.Literal.{Literal}
use Rattle.clausal.specs.Questions.{with_entries, part_of, Allowed, WorldReached, CoreOf, FewLearnt, Learns}
use Rattle.clausal.specs.States.{State, fired}
use Rattle.clausal.specs.Trees.{Tree, Complete, size}
use Rattle.clausal.specs.declared.modal_clauses.ModalClause.{ModalClause}
use Rattle.engine.specs.Drawing.{drawn, blank_sheet}
use Rattle.engine.specs.declared.outcome.Outcome.{Outcome}
use Rattle.engine.specs.declared.outcome.Outcome.TheVariants.{Open, Closed, Full}
use Rattle.firing.specs.Firing.{AssumesJust}
use Rattle.naming.specs.Tables.{boxes_in, diamonds_in}
use Rattle.naming.specs.declared.table.Table.{Table}
use Rattle.oracle.specs.Oracles.{Lists, Unsatisfiable}
use Rattle.sheet.specs.declared.row.SheetRow.{SheetRow}

-- Open: a complete tree of that many worlds, which the sheet shows if it fits.
pub record Opened (st : State) (xs : List Literal) (room : ℕ) (sheet : List SheetRow) (count : ℕ) : Type 0 where
  pub tree : Tree
  pub whole : Complete st 0 xs tree
  pub counted : size tree ≡ count
  pub shown : sheet ≡ drawn room tree

-- Closed: a part of what was assumed that no valuation obeys while it makes the entries of level 0 true.
pub record Refuted (es : Lists) (xs : List Literal) (room : ℕ) (sheet : List SheetRow) (core : Assumptions) : Type 0 where
  pub part : (x : Literal) → assumes core x ≡ true → In x xs
  pub unsatisfiable : Unsatisfiable core (es 0)
  pub blank : sheet ≡ blank_sheet room

-- Full: the level holds 128 learnt entries, and a world that the question reaches there is allowed a valuation with a fired diamond whose part has a core.
pub record Filled (st : State) (es : Lists) (xs : List Literal) (room : ℕ) (sheet : List SheetRow) (l : ℕ) : Type 0 where
  pub many : 128 ≤ length (learnt (es l))
  pub literals : List Literal
  pub reached : WorldReached (with_entries st es) xs l literals
  pub valuation : Valuation
  pub allowed : Allowed (with_entries st es) l literals valuation
  pub diamond : ModalClause
  pub fires : In diamond (fired valuation (st.diamonds l))
  pub core : List Literal
  pub lost : CoreOf (with_entries st es) (suc l) (part_of st l valuation diamond) core
  pub blank : sheet ≡ blank_sheet room

abbrev pub OutcomeLeaves : State → Lists → List Literal → ℕ → List SheetRow → Outcome → Type 0
OutcomeLeaves st es xs room sheet (Open count) = Opened st xs room sheet count
OutcomeLeaves st es xs room sheet (Closed core) = Refuted es xs room sheet core
OutcomeLeaves st es xs room sheet (Full l) = Filled st es xs room sheet l

-- a question under the literals, which leaves the entries es and the sheet
pub record QuestionLeaves (st : State) (es : Lists) (xs : List Literal) (room : ℕ) (sheet : List SheetRow) (o : Outcome) : Type 0 where
  pub learns : Learns st es
  pub few : FewLearnt st.entries → FewLearnt es
  pub ends : OutcomeLeaves st es xs room sheet o

-- the session's box and diamond clauses are the table's
pub record SameClauses (st : State) (t : Table) : Type 0 where
  pub boxes : (l : ℕ) → st.boxes l ≡ boxes_in t l
  pub diamonds : (l : ℕ) → st.diamonds l ≡ diamonds_in t l

-- and its entries are the oracle's
pub record SameState (st : State) (t : Table) (before : Lists) : Type 0 where
  pub clauses : SameClauses st t
  pub entries : (l : ℕ) → st.entries l ≡ before l

-- for every session with the table's clauses and the oracle's entries as they were, and all literals, of atoms 0 to 63, that are just what is assumed
abbrev pub Questioned : Table → Lists → Lists → Assumptions → List SheetRow → List SheetRow → Outcome → Type 0
Questioned t before after under sheet sheet' o = (st : State) (xs : List Literal) → SameState st t before → AssumesJust under xs → ((x : Literal) → In x xs → x.atom < 64) → QuestionLeaves st after xs (length sheet) sheet' o
