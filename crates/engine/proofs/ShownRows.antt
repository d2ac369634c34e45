-- The rows of a complete tree that is drawn are shown as they are.
use Rattle.std.proofs.Common.{◌≡◌, ℕ, zero, suc, ◌+◌, ◌-◌, ◌<◌, ◌≤◌, Bool, true, false, cond, ◌&&◌, eqb, ltb, leb, List, [], ◌∷◌, ◌++◌, length, get_or, Ok, sym, refl, ap, ◌∙◌, subst, arith, length-append}
use Rattle.std.proofs.Math.Seq.{get_or-append_seam}
use Rattle.std.proofs.lemmas.Bool.Decides.{nat_tests}
use Rattle.std.proofs.lemmas.List.{append-nil, append_assoc, get_or_append_left}
use Rattle.atoms.specs.Clauses.{Valuation}
use Rattle.atoms.specs.Sets.{has, has_only_letters, letters_of}
use Rattle.atoms.specs.declared.clauses.Literal.{Literal}
use Rattle.atoms.proofs.Below.{set_has, some_none}
use Rattle.clausal.specs.Clausal.{Clausal}
use Rattle.clausal.specs.States.{State, fired, literals}
use Rattle.clausal.specs.Trees.{Tree, node, Forest, none, more, Complete, CompleteAll, size}
use Rattle.clausal.specs.declared.modal_clauses.ModalClause.{ModalClause}
use Rattle.clausal.proofs.Modals.{diamonds_orderly}
use Rattle.engine.specs.Drawing.{tree_rows, forest_rows, blank_sheet, drawn}
use Rattle.sheet.specs.Sheets.{is_blank_row, no_row, row_stands, rows_or_none, shown_from, shown_rows}
use Rattle.sheet.specs.declared.row.SheetRow.{SheetRow}
use Rattle.engine.proofs.Forests.{tree_length}

-- the worlds of a tree whose root has the level l are at most 7 levels deep

abbrev mutual
  Low : ℕ → Tree → Type 0
  Low l (node v ts) = (l ≤ 7) × LowAll (suc l) ts

  LowAll : ℕ → Forest → Type 0
  LowAll l none = Unit {0}
  LowAll l (more t ts) = Low l t × LowAll l ts

module _ (st : State) (cl : Clausal st) where
  -- at the last level no diamond clause fires
  last_unfired : (v : Valuation) (l : ℕ) → 7 ≤ l → fired v (st.diamonds l) ≡ []
  last_unfired v l h = ap (fired v) (cl.diamonds l ∙ (diamonds_orderly st cl.naming l).last h)

  mutual
    complete_low : (l : ℕ) (xs : List Literal) (t : Tree) → l ≤ 7 → Complete st l xs t → Low l t
    complete_low l xs (node v ts) h c = (h, complete_all_low l (literals (fired v (st.boxes l))) (fired v (st.diamonds l)) ts (last_unfired v l) c.2)

    complete_all_low : (l : ℕ) (bs : List Literal) (ds : List ModalClause) (ts : Forest) → (7 ≤ l → ds ≡ []) → CompleteAll st (suc l) bs ds ts → LowAll (suc l) ts
    complete_all_low l bs ds none h c = tt
    complete_all_low l bs ds (more t ts) h (d, rest, e, k, ks) =
        let some : 7 ≤ l → ⊥ = λ g. omega (arith, ap length (sym e ∙ h g)) in
        (complete_low (suc l) (d.literal ∷ bs) t (omega arith) k, complete_all_low l bs rest ts (λ g. absurd (some g)) ks)

-- the rows of a tree stand after the rows before it

abbrev row : ℕ → ℕ → Valuation → SheetRow
row p l v = record { parent = p; level = l; letters = letters_of v }

only_letters : (v : Valuation) → has_only_letters (letters_of v) ≡ true
only_letters v = rw (some_none 64 (λ a. leb 15 a && has (letters_of v) a) (λ a _. rw (set_has 15 v a) (none a (v a)))) refl
  where
    none : (a : ℕ) (b : Bool) → (leb 15 a && (ltb a 15 && b)) ≡ false
    none a b = grind (arith, nat_tests)

-- what the first row needs of the rows before it
abbrev Placed : List SheetRow → ℕ → ℕ → Type 0
Placed before p l = (v : Valuation) → row_stands before (row p l v) ≡ true

placed_root : Placed [] 0 0
placed_root v = rw (only_letters v) refl

placed_under : (before : List SheetRow) (p l : ℕ) → p < length before → suc l ≤ 7 → (get_or before p no_row).level ≡ l → Placed before p (suc l)
placed_under before p l a b e v = rw (only_letters v) (stands (length before) (get_or before p no_row).level a e)
  where
    stands : (n m : ℕ) → p < n → m ≡ l → cond (eqb n 0) (eqb p 0 && eqb (suc l) 0) (ltb p n && leb (suc l) 7 && eqb (suc l) (m + 1)) ≡ true
    stands n m a e = grind (arith, nat_tests)

not_blank : (p l : ℕ) (v : Valuation) → l ≤ 7 → is_blank_row (row p l v) ≡ false
not_blank p l v h = plain (eqb p 0) (eqb (letters_of v).bits 0)
  where
    plain : (a b : Bool) → (a && eqb l 255 && b) ≡ false
    plain a b = grind (arith, nat_tests)

mutual
  tree_shown : (before : List SheetRow) (p l : ℕ) (t : Tree) (rest : List SheetRow) → Placed before p l → Low l t
      → shown_from before (tree_rows p l (length before) t ++ rest) ≡ shown_from (before ++ tree_rows p l (length before) t) rest
  tree_shown before p l (node v ts) rest h low =
      let n = length before in
      let long : length (before ++ row p l v ∷ []) ≡ suc n = length-append before (row p l v ∷ []) ∙ omega arith in
      let level : (get_or (before ++ row p l v ∷ []) n no_row).level ≡ l = ap (λ (r : SheetRow). r.level) (get_or-append_seam before (row p l v) [] no_row) in
      let f = forest_shown (before ++ row p l v ∷ []) n l ts rest (omega arith) level low.1 in
      rw (not_blank p l v low.0, h v) (
      subst (λ (m : ℕ). shown_from (before ++ row p l v ∷ []) (forest_rows n (suc l) m ts ++ rest) ≡ shown_from ((before ++ row p l v ∷ []) ++ forest_rows n (suc l) m ts) rest) long f
      ∙ ap (λ (rs : List SheetRow). shown_from rs rest) (append_assoc before (row p l v ∷ []) (forest_rows n (suc l) (suc n) ts)))

  forest_shown : (before : List SheetRow) (p l : ℕ) (ts : Forest) (rest : List SheetRow) → p < length before → (get_or before p no_row).level ≡ l → LowAll (suc l) ts
      → shown_from before (forest_rows p (suc l) (length before) ts ++ rest) ≡ shown_from (before ++ forest_rows p (suc l) (length before) ts) rest
  forest_shown before p l none rest h e low = ap (λ (rs : List SheetRow). shown_from rs rest) (sym (append-nil before))
  forest_shown before p l (more t ts) rest h e low =
      let n = length before in
      let a = tree_rows p (suc l) n t in
      let b = forest_rows p (suc l) (n + size t) ts in
      let long : length (before ++ a) ≡ n + size t = length-append before a ∙ ap (λ (m : ℕ). n + m) (tree_length p (suc l) n t) in
      let level : (get_or (before ++ a) p no_row).level ≡ l = ap (λ (r : SheetRow). r.level) (get_or_append_left before a no_row p h) ∙ e in
      let f = forest_shown (before ++ a) p l ts rest (omega arith) level low.1 in
      ap (λ (rs : List SheetRow). shown_from before rs) (append_assoc a b rest)
      ∙ tree_shown before p (suc l) t (b ++ rest) (placed_under before p l h (low_root t low.0) e) low.0
      ∙ subst (λ (m : ℕ). shown_from (before ++ a) (forest_rows p (suc l) m ts ++ rest) ≡ shown_from ((before ++ a) ++ forest_rows p (suc l) m ts) rest) long f
      ∙ ap (λ (rs : List SheetRow). shown_from rs rest) (append_assoc before a b)

  low_root : {l : ℕ} (t : Tree) → Low l t → l ≤ 7
  low_root (node v ts) low = low.0

-- blank rows end it
blank_end : (rows : List SheetRow) (k : ℕ) → shown_from rows (blank_sheet k) ≡ rows_or_none rows
blank_end rows zero = refl
blank_end rows (suc k) = refl

rows_some : (p l n : ℕ) (t : Tree) → rows_or_none (tree_rows p l n t) ≡ Ok (tree_rows p l n t)
rows_some p l n (node v ts) = refl

pub drawn_shown : (st : State) → Clausal st → (xs : List Literal) (t : Tree) → Complete st 0 xs t → (room : ℕ) → size t ≤ room → shown_rows (drawn room t) ≡ Ok (tree_rows 0 0 0 t)
drawn_shown st cl xs t c room h =
    let fits : leb (size t) room ≡ true = grind (arith, nat_tests) in
    rw fits (tree_shown [] 0 0 t (blank_sheet (room - size t)) placed_root (complete_low st cl 0 xs t (omega arith) c) ∙ blank_end (tree_rows 0 0 0 t) (room - size t) ∙ rows_some 0 0 0 t)
