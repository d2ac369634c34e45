-- What the drawing of a complete tree shows to who reads the sheet.
use Rattle.std.specs.Prelude.{◌≡◌, ℕ, ◌≤◌, List, Ok}
use Rattle.modal.specs.Kripke.{meets}
use Rattle.modal.specs.Rows.{says}
use Rattle.modal.specs.declared.row.Row.{Row}
use Rattle.atoms.specs.declared.clauses.Literal.{Literal}
use Rattle.clausal.specs.Clausal.{Clausal}
use Rattle.clausal.specs.States.{State}
use Rattle.clausal.specs.Trees.{Tree, Complete, size, worlds}
use Rattle.engine.specs.Drawing.{tree_rows, drawn}
use Rattle.sheet.specs.Sheets.{shown_rows, truth_on, worlds_of}

-- the sheet shows the tree's rows, these are the tree's worlds, and a rule is true on the sheet just if the tree's root meets it
pub record ShownWhole (room : ℕ) (t : Tree) : Type 0 where
  pub rows : shown_rows (drawn room t) ≡ Ok (tree_rows 0 0 0 t)
  pub same : worlds_of (tree_rows 0 0 0 t) ≡ worlds 0 t
  pub truth : (rule : List Row) → truth_on (shown_rows (drawn room t)) rule ≡ Ok (meets (says rule) (worlds 0 t) 0)

-- so it is with every complete tree that fits
abbrev pub DrawnShown : Type 0
DrawnShown = (st : State) → Clausal st → (xs : List Literal) (t : Tree) → Complete st 0 xs t → (room : ℕ) → size t ≤ room → ShownWhole room t
