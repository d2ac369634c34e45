-- What the sheet shows: as a row is written, and at the end of a question.
use Rattle.std.proofs.Common.{◌≡◌, ℕ, suc, ◌<◌, ◌≤◌, Bool, true, false, cond, ltb, ◌⊎◌, List, [], ◌∷◌, ◌++◌, length, get_or, set, sym, refl, ap, ◌∙◌, subst, inl, inr, arith, length-append, length-set, get_or-set_other, get_or-set_same, ltb-false, ltb-true}
use Rattle.std.proofs.Math.Seq.{get_or-append_seam}
use Rattle.std.proofs.lemmas.Bool.{cases_lt}
use Rattle.std.proofs.lemmas.List.{get_or_append_left}
use Rattle.clausal.specs.Trees.{Tree, size}
use Rattle.engine.specs.Drawing.{tree_rows}
use Rattle.engine.specs.Worlds.{Shows}
use Rattle.sheet.specs.Sheets.{blank_row}
use Rattle.sheet.specs.declared.row.SheetRow.{SheetRow}
use Rattle.std.proofs.Common.{◌≡◌, ℕ, suc, ◌-◌, ◌≤◌, Bool, true, false, cond, leb, List, [], ◌∷◌, ◌++◌, length, take, sym, refl, ap, ap₂, ◌∙◌, subst, arith, leb-true}
use Rattle.clausal.specs.Trees.{Tree, size}
use Rattle.engine.specs.Drawing.{tree_rows, blank_sheet, drawn}
use Rattle.engine.specs.Steps.{tidied}
use Rattle.engine.specs.Worlds.{Shows}
use Rattle.engine.specs.declared.outcome.Outcome.TheVariants.{Open}
use Rattle.sheet.specs.declared.row.SheetRow.{SheetRow}
use Rattle.engine.proofs.Forests.{tree_length}

pub shows_front : (sheet rows more : List SheetRow) → Shows sheet (rows ++ more) → Shows sheet rows
shows_front sheet rows qs s i g h = let n = length-append rows qs in s i g (omega arith) ∙ get_or_append_left rows qs blank_row i h

-- one row more is written
pub shows_more : (sheet rows : List SheetRow) (r : SheetRow) (n : ℕ) → n ≡ length rows → Shows sheet rows → Shows (cond (ltb n (length sheet)) (set sheet n r) sheet) (rows ++ r ∷ [])
shows_more sheet rows r n is s = pick (ltb n (length sheet)) refl
  where
    old : (sheet2 : List SheetRow) (i : ℕ) → get_or sheet2 i blank_row ≡ get_or sheet i blank_row → i < length sheet → i < length rows → get_or sheet2 i blank_row ≡ get_or (rows ++ r ∷ []) i blank_row
    old sheet2 i e g h = e ∙ s i g h ∙ sym (get_or_append_left rows (r ∷ []) blank_row i h)

    pick : (b : Bool) → ltb n (length sheet) ≡ b → Shows (cond b (set sheet n r) sheet) (rows ++ r ∷ [])
    pick false e i g h =
        let ge : length sheet ≤ n = ltb-false n (length sheet) e in
        old sheet i refl g (omega arith)
    pick true e i g h = at (cases_lt i n)
      where
        lt : n < length sheet
        lt = ltb-true n (length sheet) e

        at : (i < n) ⊎ (n ≤ i) → get_or (set sheet n r) i blank_row ≡ get_or (rows ++ r ∷ []) i blank_row
        at (inl low) = let k = length-set sheet n r in old (set sheet n r) i (get_or-set_other sheet n i r blank_row (λ q. omega arith)) (omega arith) (omega arith)
        at (inr ge) =
            let k = length-append rows (r ∷ []) in
            let eq : n ≡ i = omega arith in
            subst (λ (j : ℕ). get_or (set sheet n r) j blank_row ≡ get_or (rows ++ r ∷ []) j blank_row) eq
            (get_or-set_same sheet n r blank_row lt ∙ sym (ap (λ (j : ℕ). get_or (rows ++ r ∷ []) j blank_row) is ∙ get_or-append_seam rows r [] blank_row))

-- rows that are shown and fit stand at the sheet's start
pub taken_shown : (sheet rows : List SheetRow) → Shows sheet rows → length rows ≤ length sheet → take (length rows) sheet ≡ rows
taken_shown sheet [] s h = refl
taken_shown [] (r ∷ rows) s h = absurd (omega arith)
taken_shown (x ∷ sheet) (r ∷ rows) s h = ap₂ (λ (y : SheetRow) (ys : List SheetRow). y ∷ ys) (s 0 (omega arith) (omega arith)) (taken_shown sheet rows (λ i g k. s (suc i) (omega arith) (omega arith)) (omega arith))

-- where no row stays, all are blank
pub none_stays : (sheet : List SheetRow) → blank_sheet (length sheet - 0) ≡ blank_sheet (length sheet)
none_stays sheet = ap blank_sheet (omega arith)

-- an open question's tidied sheet shows its tree
pub tidied_drawn : (sheet : List SheetRow) (t : Tree) (count : ℕ) → size t ≡ count → Shows sheet (tree_rows 0 0 0 t) → tidied (Open count) sheet ≡ drawn (length sheet) t
tidied_drawn sheet t count e s =
    subst (λ (n : ℕ). tidied (Open n) sheet ≡ drawn (length sheet) t) e (pick (leb (size t) (length sheet)) refl)
  where
    pick : (b : Bool) → leb (size t) (length sheet) ≡ b → take (cond b (size t) 0) sheet ++ blank_sheet (length sheet - cond b (size t) 0) ≡ cond b (tree_rows 0 0 0 t ++ blank_sheet (length sheet - size t)) (blank_sheet (length sheet))
    pick true q =
        let fits = leb-true (size t) (length sheet) q in
        let n = tree_length 0 0 0 t in
        ap (λ (ys : List SheetRow). ys ++ blank_sheet (length sheet - size t)) (ap (λ (k : ℕ). take k sheet) (sym n) ∙ taken_shown sheet (tree_rows 0 0 0 t) s (omega arith))
    pick false q = none_stays sheet
