-- For proofs alone: the worlds under trial, from the root on: what each is tried under, which of its parts are finished, and what the sheet shows.
use Rattle.std.specs.Prelude.{◌≡◌, ℕ, zero, suc, ◌<◌, true, false, List, [], ◌∷◌, ◌++◌, length, slice_index_or}
use Rattle.lists.specs.Lists.{In}
use Rattle.atoms.specs.Assuming.{assumes}
use Rattle.atoms.specs.Clauses.{makes_all}
use Rattle.atoms.specs.Sets.{has, letters_of}
use Rattle.atoms.specs.declared.assumptions.Assumptions.{Assumptions}
use Rattle.atoms.specs.declared.clauses.Literal.{Literal}
use Rattle.clausal.specs.Questions.{part_of, Learns, FewLearnt}
use Rattle.clausal.specs.States.{State, obeys_all, fired, literals}
use Rattle.clausal.specs.Trees.{Forest, CompleteAll}
use Rattle.clausal.specs.declared.modal_clauses.ModalClause.{ModalClause}
use Rattle.engine.specs.Drawing.{forest_rows}
use Rattle.engine.specs.declared.frames.Answer.{Answer}
use Rattle.engine.specs.declared.frames.Answer.TheVariants.{Nothing, Open, Closed}
use Rattle.engine.specs.declared.frames.Cursor.{Cursor}
use Rattle.engine.specs.declared.frames.Frame.{Frame}
use Rattle.engine.specs.declared.frames.Stage.{Stage}
use Rattle.engine.specs.declared.frames.Stage.TheVariants.{Seeking, Descending, Settled}
use Rattle.firing.specs.Firing.{AssumesJust, NamesOf}
use Rattle.oracle.specs.Oracles.{Lists, Unsatisfiable}
use Rattle.sheet.specs.Sheets.{blank_row}
use Rattle.sheet.specs.declared.row.SheetRow.{SheetRow}

-- what stands where no frame is
abbrev pub no_frame : Frame
no_frame =
    record {
      stage = Seeking;
      under = record { within = record { bits = 0 }; without = record { bits = 0 } };
      valuation = record { bits = 0 };
      unvisited = record { bits = 0 };
      diamond = record { name = 0; literal = record { atom = 0; holds = false } };
      parent = 0;
      row = 0;
    }

-- the world under trial at the level
abbrev pub frame_at : List Frame → ℕ → Frame
frame_at fs l = slice_index_or fs l no_frame

-- the sheet shows the rows as far as both go
abbrev pub Shows : List SheetRow → List SheetRow → Type 0
Shows sheet rows = (i : ℕ) → i < length sheet → i < length rows → slice_index_or sheet i blank_row ≡ slice_index_or rows i blank_row

-- what a world is tried under: its literals, all of atoms 0 to 63, its parent's row, and the rows of the worlds before it
pub record Trial : Type 0 where
  pub literals : List Literal
  pub small : (x : Literal) → In x literals → x.atom < 64
  pub parent : ℕ
  pub rows : List SheetRow

-- A world with a valuation: the part of its fired diamond clauses that is done, each with its finished tree, and what is pending.
pub record World (st : State) (es : Lists) (l : ℕ) (trial : Trial) (f : Frame) (pending : List ModalClause) : Type 0 where
  pub row : f.row ≡ length trial.rows
  pub parent : f.parent ≡ trial.parent
  pub assumed : AssumesJust f.under trial.literals
  pub obeyed : obeys_all (has f.valuation) trial.literals ≡ true
  pub made : makes_all (has f.valuation) (es l) ≡ true
  pub done : List ModalClause
  pub split : fired (has f.valuation) (st.diamonds l) ≡ done ++ pending
  pub trees : Forest
  pub whole : CompleteAll st (suc l) (literals (fired (has f.valuation) (st.boxes l))) done trees

-- the row of a world
abbrev pub world_row : Frame → ℕ → SheetRow
world_row f l = record { parent = f.parent; level = l; letters = letters_of (has f.valuation) }

-- its row and those of its finished trees
abbrev pub own_rows : Frame → ℕ → Forest → List SheetRow
own_rows f l trees = world_row f l ∷ forest_rows f.row (suc l) (suc f.row) trees

-- all rows so far
abbrev pub world_rows : {st : State} {es : Lists} {l : ℕ} {trial : Trial} {f : Frame} {pending : List ModalClause} → World st es l trial f pending → List SheetRow
world_rows {l = l} {trial = trial} {f = f} w = trial.rows ++ own_rows f l w.trees

-- a world whose next diamond clause is being visited: what its part is tried under
pub record Visits (Above : Trial → Type 0) (st : State) (es : Lists) (l : ℕ) (f : Frame) (next : Trial) : Type 0 where
  pub trial : Trial
  pub above : Above trial
  pub rest : List ModalClause
  pub world : World st es l trial f (f.diamond ∷ rest)
  pub unvisited : NamesOf f.unvisited rest
  pub literals : next.literals ≡ part_of st l (has f.valuation) f.diamond
  pub parent : next.parent ≡ f.row
  pub rows : next.rows ≡ world_rows world

-- the frames below a level, from the root on, and what the world at that level is tried under
unfoldable pub Above : State → Lists → List Frame → List Literal → ℕ → Trial → Type 0
Above st es fs xs zero trial = (trial.literals ≡ xs) × (trial.parent ≡ 0) × (trial.rows ≡ [])
Above st es fs xs (suc l) trial = Visits (Above st es fs xs l) st es l (frame_at fs l) trial

-- the world on top seeks a valuation
pub record Seeks (st : State) (es : Lists) (fs : List Frame) (xs : List Literal) (sheet : List SheetRow) (l count : ℕ) : Type 0 where
  pub trial : Trial
  pub above : Above st es fs xs l trial
  pub row : (frame_at fs l).row ≡ length trial.rows
  pub parent : (frame_at fs l).parent ≡ trial.parent
  pub assumed : AssumesJust (frame_at fs l).under trial.literals
  pub counted : count ≡ suc (length trial.rows)
  pub shows : Shows sheet trial.rows

-- it has a valuation, and the names of the diamond clauses that are pending
pub record Descends (st : State) (es : Lists) (fs : List Frame) (xs : List Literal) (sheet : List SheetRow) (l count : ℕ) : Type 0 where
  pub trial : Trial
  pub above : Above st es fs xs l trial
  pub rest : List ModalClause
  pub world : World st es l trial (frame_at fs l) rest
  pub unvisited : NamesOf (frame_at fs l).unvisited rest
  pub counted : count ≡ length (world_rows world)
  pub shows : Shows sheet (world_rows world)

-- the part of the diamond clause being visited has closed
pub record PartCloses (st : State) (es : Lists) (fs : List Frame) (xs : List Literal) (sheet : List SheetRow) (l : ℕ) (core : Assumptions) : Type 0 where
  pub trial : Trial
  pub above : Above st es fs xs (suc l) trial
  pub part : (x : Literal) → assumes core x ≡ true → In x trial.literals
  pub unsatisfiable : Unsatisfiable core (es (suc l))
  pub shows : Shows sheet trial.rows

-- nothing is pending
pub record Settles (st : State) (es : Lists) (fs : List Frame) (xs : List Literal) (sheet : List SheetRow) (l count : ℕ) : Type 0 where
  pub trial : Trial
  pub above : Above st es fs xs l trial
  pub world : World st es l trial (frame_at fs l) []
  pub counted : count ≡ length (world_rows world)
  pub shows : Shows sheet (world_rows world)

-- a world with a valuation, by what came back from below
abbrev pub Answered : State → Lists → List Frame → List Literal → List SheetRow → ℕ → ℕ → Answer → Type 0
Answered st es fs xs sheet l count Nothing = Descends st es fs xs sheet l count
Answered st es fs xs sheet l count Open = Descends st es fs xs sheet l count
Answered st es fs xs sheet l count (Closed core) = PartCloses st es fs xs sheet l core

-- the world on top, by its stage
abbrev pub Top : State → Lists → List Frame → List Literal → List SheetRow → ℕ → ℕ → Answer → Stage → Type 0
Top st es fs xs sheet l count a Seeking = Seeks st es fs xs sheet l count
Top st es fs xs sheet l count a Descending = Answered st es fs xs sheet l count a
Top st es fs xs sheet l count a Settled = Settles st es fs xs sheet l count

-- what is known between two turns
pub record Holds (st : State) (es : Lists) (fs : List Frame) (xs : List Literal) (sheet : List SheetRow) (at : Cursor) : Type 0 where
  pub learns : Learns st es
  pub few : FewLearnt st.entries → FewLearnt es
  pub top : Top st es fs xs sheet at.level at.count at.answer (frame_at fs at.level).stage
