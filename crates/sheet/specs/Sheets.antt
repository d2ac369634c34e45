-- A tree sheet: its rows before the first blank, which of them are lawful, the Kripke model that they are, and truth at its root.
use Rattle.std.specs.Prelude.{◌≡◌, ℕ, suc, ◌+◌, ◌<◌, Bool, cond, ◌&&◌, List, [], ◌∷◌, ◌++◌, length, Ok, Err, Result, ◌==◌, nat_le, nat_lt, slice_index_or}
use Rattle.modal.specs.Kripke.{World, Model, meets}
use Rattle.modal.specs.Rows.{says}
use Rattle.modal.specs.declared.row.Row.{Row}
use Rattle.atoms.specs.Sets.{has, has_only_letters}
use Rattle.sheet.specs.declared.row.SheetRow.{SheetRow}
use Rattle.sheet.specs.declared.faults.SheetFault.{SheetFault}
use Rattle.sheet.specs.declared.faults.SheetFault.TheVariants.{NoRoot, Unlawful}

abbrev pub is_blank_row : SheetRow → Bool
is_blank_row r = r.parent == 0 && r.level == 255 && r.letters.bits == 0

-- the row that stands after a tree
abbrev pub blank_row : SheetRow
blank_row = record { parent = 0; level = 255; letters = record { bits = 0 } }

-- what a read past the end gives; no row of a lawful sheet looks there
abbrev pub no_row : SheetRow
no_row = record { parent = 0; level = 0; letters = record { bits = 0 } }

-- may r stand after the rows before it? The root has parent 0 and level 0, any other row an earlier parent and that parent's level plus 1, at most 7; letters are 0 to 14
abbrev pub row_stands : List SheetRow → SheetRow → Bool
row_stands before r =
    has_only_letters r.letters
    && cond (length before == 0)
    (r.parent == 0 && r.level == 0)
    (nat_lt r.parent (length before) && nat_le r.level 7 && r.level == (slice_index_or before r.parent no_row).level + 1)

-- a tree has a root
abbrev pub rows_or_none : List SheetRow → Result (List SheetRow) SheetFault
rows_or_none [] = Err NoRoot
rows_or_none (r ∷ rs) = Ok (r ∷ rs)

-- the rows before the first blank, or the lowest unlawful one of them, where some rows are read
abbrev pub shown_from : List SheetRow → List SheetRow → Result (List SheetRow) SheetFault
shown_from before [] = rows_or_none before
shown_from before (r ∷ rs) = cond (is_blank_row r) (rows_or_none before) (cond (row_stands before r) (shown_from (before ++ r ∷ []) rs) (Err (Unlawful (length before))))

-- the rows that a sheet shows, or why it shows none
abbrev pub shown_rows : List SheetRow → Result (List SheetRow) SheetFault
shown_rows rs = shown_from [] rs

-- of the rows from number n on, the numbers of those with parent p; row 0 is nobody's successor
abbrev pub successors_of : ℕ → ℕ → List SheetRow → List ℕ
successors_of p n [] = []
successors_of p n (r ∷ rs) = cond (r.parent == p && nat_lt 0 n) (n ∷ successors_of p (suc n) rs) (successors_of p (suc n) rs)

-- the worlds of the rows from number n on: each has its row's letters, and its successors are the rows with it as their parent
abbrev pub worlds_from : List SheetRow → ℕ → List SheetRow → List World
worlds_from tree n [] = []
worlds_from tree n (r ∷ rs) = record { letters = has r.letters; successors = successors_of n 0 tree } ∷ worlds_from tree (suc n) rs

-- the worlds that the rows of a tree are
abbrev pub worlds_of : List SheetRow → List World
worlds_of tree = worlds_from tree 0 tree

-- each row but the root has an earlier parent
abbrev pub Earlier : List SheetRow → Type 0
Earlier tree = (k : ℕ) → 0 < k → k < length tree → (slice_index_or tree k no_row).parent < k

-- the tree is what the sheet shows, and its rows are the worlds of a Kripke model
pub record ShownTree (sheet tree : List SheetRow) : Type 0 where
  pub rows : shown_rows sheet ≡ Ok tree
  pub model : Model
  pub worlds : model.worlds ≡ worlds_of tree

-- whether the root of the shown rows meets what the rule says
abbrev pub truth_on : Result (List SheetRow) SheetFault → List Row → Result Bool SheetFault
truth_on (Ok tree) rule = Ok (meets (says rule) (worlds_of tree) 0)
truth_on (Err e) rule = Err e
