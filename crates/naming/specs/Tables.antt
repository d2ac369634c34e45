-- What a table promises: all that the contracts of its calls cite, over the words of `clausal`.
use Rattle.std.specs.Prelude.{◌≡◌, ℕ, ◌<◌, List, [], ◌++◌, map, length, Ok, Err, Result, slice_index_or}
use Rattle.lists.specs.Lists.{Matches}
use Rattle.modal.specs.declared.row.Row.{Row}
use Rattle.atoms.specs.Clauses.{learnt}
use Rattle.atoms.specs.declared.clauses.Clause.{Clause}
use Rattle.atoms.specs.declared.clauses.Entry.{Entry}
use Rattle.atoms.specs.declared.clauses.Mark.TheVariants.{Definition}
use Rattle.clausal.specs.Adding.{Fresh, Adds}
use Rattle.clausal.specs.Clausal.{EntryOf, first_clauses}
use Rattle.clausal.specs.States.{State, handle_of}
use Rattle.clausal.specs.declared.faults.AddFault.{AddFault}
use Rattle.clausal.specs.declared.modal_clauses.ModalClause.{ModalClause}
use Rattle.naming.specs.Levels.{level_items, names_at, boxes_at, diamonds_at, held_rules}
use Rattle.naming.specs.declared.definitions.Definitions.{Definitions}
use Rattle.naming.specs.declared.table.Added.{Added}
use Rattle.naming.specs.declared.table.Table.{Table}

-- the rows of each rule
abbrev pub rules_in : Table → List (List Row)
rules_in t = held_rules t.rules

-- the box clauses and the diamond clauses at each level
abbrev pub boxes_in : Table → ℕ → List ModalClause
boxes_in t = boxes_at t.levels

abbrev pub diamonds_in : Table → ℕ → List ModalClause
diamonds_in t = diamonds_at t.levels

-- the session of a table and the entries of an oracle
abbrev pub view_of : Table → (ℕ → List Entry) → State
view_of t es = record { rules = rules_in t; names = names_at t.levels; boxes = boxes_in t; diamonds = diamonds_in t; entries = es }

-- the definitions at each level
abbrev pub definitions_at : Definitions → ℕ → List Clause
definitions_at ds = level_items ds.levels

abbrev pub definition : Clause → Entry
definition c = record { clause = c; mark = Definition }

-- each level holds the clause "atom 15", marked definition, and nothing else
pub record StartEntries (es : ℕ → List Entry) : Type 0 where
  pub defined : (l : ℕ) → learnt (es l) ≡ []
  pub entries : (l : ℕ) → Matches EntryOf (first_clauses l) (es l)

-- a table with nothing in it is that of a new session
abbrev pub NewTable : Table → Type 0
NewTable t = (es : ℕ → List Entry) → StartEntries es → Fresh (view_of t es)

abbrev pub number_in : Result Added AddFault → Result ℕ AddFault
number_in (Ok added) = Ok added.number
number_in (Err fault) = Err fault

-- a rule that is added is taken in, with its definitions after the entries of any oracle; a refusal leaves the table as it was
abbrev pub AddsRule : Table → List Row → Table → Result Added AddFault → Type 0
AddsRule before rows after (Ok added) = (es : ℕ → List Entry) → Adds (view_of before es) rows (view_of after (λ l. es l ++ map definition (definitions_at added.definitions l)))
AddsRule before rows after (Err fault) = after ≡ before

-- the rule with the number is held, and has these rows
pub record HasRows (rules : List (List Row)) (number : ℕ) (rows : List Row) : Type 0 where
  pub held : number < length rules
  pub is : slice_index_or rules number [] ≡ rows

-- the rule with the number is held, and has this handle
pub record HasHandle (t : Table) (number atom : ℕ) : Type 0 where
  pub held : number < length (rules_in t)
  pub is : atom ≡ handle_of (view_of t (λ _. [])) number
  pub small : atom < 64
