-- A tree of valuations as the rows of a sheet.
use Rattle.std.specs.Prelude.{ℕ, suc, ◌+◌, ◌-◌, cond, List, [], ◌∷◌, ◌++◌, replicate, nat_le}
use Rattle.atoms.specs.Sets.{letters_of}
use Rattle.clausal.specs.Trees.{Tree, node, Forest, none, more, size}
use Rattle.sheet.specs.Sheets.{blank_row}
use Rattle.sheet.specs.declared.row.SheetRow.{SheetRow}

abbrev mutual
  -- the rows of a tree in preorder, its root as row n with that parent and level
  pub tree_rows : ℕ → ℕ → ℕ → Tree → List SheetRow
  tree_rows p l n (node v ts) = record { parent = p; level = l; letters = letters_of v } ∷ forest_rows n (suc l) (suc n) ts

  pub forest_rows : ℕ → ℕ → ℕ → Forest → List SheetRow
  forest_rows p l n none = []
  forest_rows p l n (more t ts) = tree_rows p l n t ++ forest_rows p l (n + size t) ts

-- a sheet with so many rows, all of them blank
abbrev pub blank_sheet : ℕ → List SheetRow
blank_sheet room = replicate room blank_row

-- a sheet with so many rows that shows the tree if it fits; otherwise all are blank
abbrev pub drawn : ℕ → Tree → List SheetRow
drawn room t = cond (nat_le (size t) room) (tree_rows 0 0 0 t ++ blank_sheet (room - size t)) (blank_sheet room)
