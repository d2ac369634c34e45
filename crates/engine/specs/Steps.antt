-- For proofs alone: what each turn of a question does, and what it keeps.
use Rattle.std.specs.Prelude.{◌≡◌, ◌≤◌, ℕ, ◌-◌, false, cond, List, ◌++◌, length, take, ◌==◌, nat_le, nat_lt, slice_set}
use Rattle.atoms.specs.declared.assumptions.Assumptions.{Assumptions}
use Rattle.atoms.specs.declared.clauses.Clause.{Clause}
use Rattle.atoms.specs.declared.clauses.Entry.{Entry}
use Rattle.atoms.specs.declared.clauses.Literal.{Literal}
use Rattle.atoms.specs.declared.clauses.Mark.TheVariants.{Learnt}
use Rattle.atoms.specs.declared.sets.AtomSet.{AtomSet}
use Rattle.clausal.specs.States.{State}
use Rattle.clausal.specs.declared.modal_clauses.ModalClause.{ModalClause}
use Rattle.engine.specs.Drawing.{blank_sheet}
use Rattle.engine.specs.Outcomes.{QuestionLeaves, SameClauses}
use Rattle.engine.specs.Termination.{Bounded, TurnDecreases}
use Rattle.engine.specs.Worlds.{Holds}
use Rattle.engine.specs.declared.frames.Answer.{Answer}
use Rattle.engine.specs.declared.frames.Answer.TheVariants.{Nothing, Open, Closed}
use Rattle.engine.specs.declared.frames.Cursor.{Cursor}
use Rattle.engine.specs.declared.frames.Frame.{Frame}
use Rattle.engine.specs.declared.outcome.Outcome.{Outcome}
use Rattle.engine.specs.declared.outcome.Outcome.TheVariants.{Open as opened, Closed as closed, Full as full}
use Rattle.engine.specs.declared.frames.Stage.{Stage}
use Rattle.engine.specs.declared.frames.Stage.TheVariants.{Seeking, Descending}
use Rattle.engine.specs.declared.frames.Turn.{Turn}
use Rattle.engine.specs.declared.frames.Turn.TheVariants.{Go, Done}
use Rattle.naming.specs.declared.table.Table.{Table}
use Rattle.oracle.specs.Oracles.{Lists}
use Rattle.sheet.specs.declared.row.SheetRow.{SheetRow}
use Rattle.stack.specs.Entries.{entries_of, slots_of}
use Rattle.stack.specs.declared.Stack.{Stack}

-- no core has come back
abbrev pub NoCore : Answer → Type 0
NoCore Nothing = Unit {0}
NoCore Open = Unit {0}
NoCore (Closed _) = ⊥

-- a world that seeks a valuation
abbrev pub fresh : Assumptions → ℕ → ℕ → Frame
fresh under parent row =
    record {
      stage = Seeking;
      under = under;
      valuation = record { bits = 0 };
      unvisited = record { bits = 0 };
      diamond = record { name = 0; literal = record { atom = 0; holds = false } };
      parent = parent;
      row = row;
    }

-- the world with a valuation and the names to visit
abbrev pub valued : Frame → AtomSet → AtomSet → Frame
valued f v unvisited = record { stage = Descending; under = f.under; valuation = v; unvisited = unvisited; diamond = f.diamond; parent = f.parent; row = f.row }

-- the world at another stage, with other names to visit and another diamond clause being visited
abbrev pub staged : Frame → Stage → AtomSet → ModalClause → Frame
staged f s unvisited d = record { stage = s; under = f.under; valuation = f.valuation; unvisited = unvisited; diamond = d; parent = f.parent; row = f.row }

-- where a question starts
abbrev pub outset : Cursor
outset = record { level = 0; count = 1; answer = Nothing }

-- the sheet with one row written, if it goes so far
abbrev pub drawn_at : List SheetRow → ℕ → ℕ → ℕ → AtomSet → List SheetRow
drawn_at sheet row parent level letters = cond (nat_lt row (length sheet)) (slice_set sheet row (record { parent = parent; level = level; letters = letters })) sheet

-- the world on top has its answer: the search goes back to the world above, or ends with an outcome at the root
abbrev pub leaving : Cursor → Answer → Outcome → Turn
leaving at answer o = cond (at.level == 0) (Done o) (Go (record { level = at.level - 1; count = at.count; answer = answer }))

-- the frames without the one on top, unless it is the first
abbrev pub popped : Cursor → List Frame → List Frame
popped at fs = cond (at.level == 0) fs (take at.level fs)

-- the entry that a world learns
abbrev pub learnt_entry : Clause → Entry
learnt_entry clause = record { clause = clause; mark = Learnt }

-- how many rows of a sheet with so many rows show the outcome's worlds
abbrev pub rows_kept : Outcome → ℕ → ℕ
rows_kept (opened count) room = cond (nat_le count room) count 0
rows_kept (closed _) room = 0
rows_kept (full _) room = 0

-- the sheet with all other rows blank
abbrev pub tidied : Outcome → List SheetRow → List SheetRow
tidied o sheet = take (rows_kept o (length sheet)) sheet ++ blank_sheet (length sheet - rows_kept o (length sheet))

-- a turn keeps what is known, or ends the question, whose promise is of the tidied sheet
abbrev pub Keeps : State → Lists → List Frame → List Literal → List SheetRow → Turn → Type 0
Keeps st es fs xs sheet (Go next) = Holds st es fs xs sheet next
Keeps st es fs xs sheet (Done o) = QuestionLeaves st es xs (length sheet) (tidied o sheet) o

-- it does so in every session with the table's clauses
abbrev pub KeepsAll : Table → Lists → List Frame → List SheetRow → Cursor → Lists → List Frame → List SheetRow → Turn → Type 0
KeepsAll t before fs sheet at after fs' sheet' turn = (st : State) (xs : List Literal) → SameClauses st t → Holds st before fs xs sheet at → Keeps st after fs' xs sheet' turn

-- where a turn starts: a stack with a slot for each level, and the bounds are kept
pub record TurnStarts (s : Stack Frame) (at : Cursor) : Type 0 where
  pub room : 8 ≤ length (slots_of s)
  pub bounded : Bounded (entries_of s) at

-- what a turn does, from the oracle's entries, the stack and the sheet before it to those after it: it lowers the measure or ends the question, keeps what is known, and leaves the stack as many slots
pub record TurnDoes (t : Table) (before : Lists) (s : Stack Frame) (sheet : List SheetRow) (at : Cursor) (after : Lists) (s' : Stack Frame) (sheet' : List SheetRow) (turn : Turn) : Type 0 where
  pub ends : TurnDecreases before (entries_of s) at after (entries_of s') turn
  pub keeps : KeepsAll t before (entries_of s) sheet at after (entries_of s') sheet' turn
  pub room : length (slots_of s') ≡ length (slots_of s)

-- a turn that goes on and leaves the oracle and the sheet alone
abbrev pub QuietTurn : Table → Stack Frame → Cursor → Stack Frame → Cursor → Type 0
QuietTurn t s at s' next = (es : Lists) (sheet : List SheetRow) → TurnDoes t es s sheet at es s' sheet (Go next)
