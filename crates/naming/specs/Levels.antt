-- What a table's parts hold, in the words of the logic: what stands at each level, and the rules. Beyond the last level there is nothing.
use Rattle.std.specs.Prelude.{ℕ, List, [], map, slice_index_or}
use Rattle.modal.specs.Rules.{listed}
use Rattle.modal.specs.declared.row.Row.{Row}
use Rattle.modal.specs.declared.row_list.RowList.{RowList}
use Rattle.fixed_list.specs.Items.{items_of}
use Rattle.fixed_list.specs.declared.ArrayVec.{ArrayVec}
use Rattle.clausal.specs.States.{State}
use Rattle.clausal.specs.declared.modal_clauses.ModalClause.{ModalClause}
use Rattle.clausal.specs.declared.names.Name.{Name}
use Rattle.naming.specs.declared.level_table.LevelTable.{LevelTable}

abbrev pub level_items : {T : Type 0} {N : ℕ} → List (ArrayVec T N) → ℕ → List T
level_items vs l = slice_index_or (map items_of vs) l []

-- the names, the box clauses and the diamond clauses of one level
pub record LevelLists : Type 0 where
  pub names : List Name
  pub boxes : List ModalClause
  pub diamonds : List ModalClause

abbrev pub no_lists : LevelLists
no_lists = record { names = []; boxes = []; diamonds = [] }

abbrev pub lists_of : LevelTable → LevelLists
lists_of t = record { names = items_of t.names; boxes = items_of t.boxes; diamonds = items_of t.diamonds }

abbrev pub lists_at : List LevelTable → ℕ → LevelLists
lists_at ts l = slice_index_or (map lists_of ts) l no_lists

abbrev pub names_at : List LevelTable → ℕ → List Name
names_at ts l = (lists_at ts l).names

abbrev pub boxes_at : List LevelTable → ℕ → List ModalClause
boxes_at ts l = (lists_at ts l).boxes

abbrev pub diamonds_at : List LevelTable → ℕ → List ModalClause
diamonds_at ts l = (lists_at ts l).diamonds

-- the rows of the rules that are held
abbrev pub held_rules : ArrayVec RowList 16 → List (List Row)
held_rules rs = map listed (items_of rs)

-- a session with nothing but rules and names
abbrev pub named_state : List (List Row) → (ℕ → List Name) → State
named_state rs ns = record { rules = rs; names = ns; boxes = λ _. []; diamonds = λ _. []; entries = λ _. [] }
