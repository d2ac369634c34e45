-- The rows of a tree are its worlds; so a drawn tree is shown with what its root meets.
use Rattle.std.proofs.Common.{◌≡◌, ℕ, suc, ◌+◌, ◌<◌, ◌≤◌, Bool, true, false, cond, ◌&&◌, eqb, ltb, ◌⊎◌, List, [], ◌∷◌, ◌++◌, length, Ok, refl, ap, ◌∙◌, ap₂, inl, inr, arith}
use mathlib.Core.Path.{fun_ext}
use Rattle.std.proofs.lemmas.Bool.Decides.{nat_tests}
use Rattle.std.proofs.lemmas.List.{append-nil}
use Rattle.modal.specs.Kripke.{World, meets}
use Rattle.modal.specs.Rows.{says}
use Rattle.atoms.specs.Clauses.{Valuation}
use Rattle.atoms.specs.Sets.{has, letters_of}
use Rattle.atoms.proofs.Below.{set_has}
use Rattle.clausal.specs.Trees.{Tree, node, Forest, none, more, size, sizes, roots, worlds, worlds_all}
use Rattle.engine.specs.Drawing.{tree_rows, forest_rows}
use Rattle.engine.specs.Shown.{DrawnShown}
use Rattle.sheet.specs.Sheets.{successors_of, worlds_from, worlds_of}
use Rattle.sheet.specs.declared.row.SheetRow.{SheetRow}
use Rattle.engine.proofs.Forests.{tree_length}
use Rattle.engine.proofs.ShownRows.{drawn_shown}

-- the successors of a world in a list of rows

successors_append : (k n : ℕ) (xs ys : List SheetRow) → successors_of k n (xs ++ ys) ≡ successors_of k n xs ++ successors_of k (n + length xs) ys
successors_append k n [] ys = ap (λ (m : ℕ). successors_of k m ys) (omega arith)
successors_append k n (x ∷ xs) ys =
    let e : suc n + length xs ≡ n + suc (length xs) = omega arith in
    rw (rw e at (successors_append k (suc n) xs ys)) (join (eqb x.parent k && ltb 0 n) (successors_of k (suc n) xs) (successors_of k (n + suc (length xs)) ys))
  where
    join : (b : Bool) (bs cs : List ℕ) → cond b (n ∷ (bs ++ cs)) (bs ++ cs) ≡ cond b (n ∷ bs) bs ++ cs
    join true bs cs = refl
    join false bs cs = refl

-- a number that is neither the parent nor one of the tree's has no successor there
mutual
  tree_none : (k p l n m : ℕ) (t : Tree) → (eqb p k ≡ false) → (k < n) ⊎ (n + size t ≤ k) → successors_of k m (tree_rows p l n t) ≡ []
  tree_none k p l n m (node v ts) e o = rw e (forest_none k n (suc l) (suc n) (suc m) ts (apart o) (past o))
    where
      apart : (k < n) ⊎ (n + suc (sizes ts) ≤ k) → eqb n k ≡ false
      apart (inl h) = grind (arith, nat_tests)
      apart (inr h) = grind (arith, nat_tests)

      past : (k < n) ⊎ (n + suc (sizes ts) ≤ k) → (k < suc n) ⊎ (suc n + sizes ts ≤ k)
      past (inl h) = inl (omega arith)
      past (inr h) = inr (omega arith)

  forest_none : (k p l n m : ℕ) (ts : Forest) → (eqb p k ≡ false) → (k < n) ⊎ (n + sizes ts ≤ k) → successors_of k m (forest_rows p l n ts) ≡ []
  forest_none k p l n m none e o = refl
  forest_none k p l n m (more t ts) e o =
      let a = tree_rows p l n t in
      successors_append k m a (forest_rows p l (n + size t) ts)
      ∙ ap₂ (λ (x y : List ℕ). x ++ y) (tree_none k p l n m t e (first o)) (forest_none k p l (n + size t) (m + length a) ts e (others o))
    where
      first : (k < n) ⊎ (n + (size t + sizes ts) ≤ k) → (k < n) ⊎ (n + size t ≤ k)
      first (inl h) = inl h
      first (inr h) = inr (omega arith)

      others : (k < n) ⊎ (n + (size t + sizes ts) ≤ k) → (k < n + size t) ⊎ (n + size t + sizes ts ≤ k)
      others (inl h) = inl (omega arith)
      others (inr h) = inr (omega arith)

-- the parent of a forest has its roots as successors
forest_roots : (p l n : ℕ) (ts : Forest) → p < n → successors_of p n (forest_rows p l n ts) ≡ roots n ts
forest_roots p l n none h = refl
forest_roots p l n (more t ts) h =
    let a = tree_rows p l n t in
    successors_append p n a (forest_rows p l (n + size t) ts)
    ∙ ap₂ (λ (x y : List ℕ). x ++ y) (tree_root t) (ap (λ (k : ℕ). successors_of p (n + k) (forest_rows p l (n + size t) ts)) (tree_length p l n t) ∙ forest_roots p l (n + size t) ts (omega arith))
  where
    tree_root : (u : Tree) → successors_of p n (tree_rows p l n u) ≡ n ∷ []
    tree_root (node v us) =
        let is : (eqb p p && ltb 0 n) ≡ true = grind (arith, nat_tests) in
        rw is (ap (λ (zs : List ℕ). n ∷ zs) (forest_none p n (suc l) (suc n) (suc n) us (let ne : eqb n p ≡ false = grind (arith, nat_tests) in ne) (inl (omega arith))))

-- the rows of a tree are its worlds

worlds_append : (all : List SheetRow) (n : ℕ) (xs ys : List SheetRow) → worlds_from all n (xs ++ ys) ≡ worlds_from all n xs ++ worlds_from all (n + length xs) ys
worlds_append all n [] ys = ap (λ (m : ℕ). worlds_from all m ys) (omega arith)
worlds_append all n (x ∷ xs) ys = ap (λ (ws : List World). record { letters = has x.letters; successors = successors_of n 0 all } ∷ ws) (worlds_append all (suc n) xs ys ∙ ap (λ (m : ℕ). worlds_from all (suc n) xs ++ worlds_from all m ys) (omega arith))

letters_same : (v : Valuation) → has (letters_of v) ≡ (λ a. ltb a 15 && v a)
letters_same v = fun_ext (λ a. set_has 15 v a)

-- the numbers from n on have their successors among the rows from n on
abbrev Inner : List SheetRow → ℕ → ℕ → List SheetRow → Type 0
Inner all n m rows = (k : ℕ) → n ≤ k → k < n + m → successors_of k 0 all ≡ successors_of k n rows

module _ (all : List SheetRow) where
  mutual
    tree_worlds : (p l n : ℕ) (t : Tree) → (eqb p n && ltb 0 n) ≡ false → ((k : ℕ) → n < k → eqb p k ≡ false) → Inner all n (size t) (tree_rows p l n t) → worlds_from all n (tree_rows p l n t) ≡ worlds n t
    tree_worlds p l n (node v ts) e later h =
        let here : successors_of n 0 all ≡ roots (suc n) ts = h n (omega arith) (omega arith) ∙ rw e (forest_roots n (suc l) (suc n) ts (omega arith)) in
        ap₂ (λ (w : World) (ws : List World). w ∷ ws) (ap₂ (λ (f : ℕ → Bool) (zs : List ℕ). record { letters = f; successors = zs }) (letters_same v) here)
        (forest_worlds n (suc l) (suc n) ts (omega arith) (λ k a b. h k (omega arith) (omega arith) ∙ rw (later k (omega arith)) refl))

    forest_worlds : (p l n : ℕ) (ts : Forest) → p < n → Inner all n (sizes ts) (forest_rows p l n ts) → worlds_from all n (forest_rows p l n ts) ≡ worlds_all n ts
    forest_worlds p l n none b h = refl
    forest_worlds p l n (more t ts) b h =
        let front = tree_rows p l n t in
        let back = forest_rows p l (n + size t) ts in
        let long = tree_length p l n t in
        let apart : (k : ℕ) → n ≤ k → eqb p k ≡ false = λ k a. grind (arith, nat_tests) in
        let split : (k : ℕ) → n ≤ k → k < n + (size t + sizes ts) → successors_of k 0 all ≡ successors_of k n front ++ successors_of k (n + size t) back =
        λ k a c. h k a c ∙ successors_append k n front back ∙ ap (λ (m : ℕ). successors_of k n front ++ successors_of k (n + m) back) long in
        worlds_append all n front back
        ∙ ap₂ (λ (x y : List World). x ++ y)
        (tree_worlds p l n t (rw (apart n (omega arith)) refl) (λ k a. apart k (omega arith))
        (λ k a c. split k a (omega arith) ∙ ap (λ (zs : List ℕ). successors_of k n front ++ zs) (forest_none k p l (n + size t) (n + size t) ts (apart k a) (inl c)) ∙ append-nil (successors_of k n front)))
        (ap (λ (m : ℕ). worlds_from all (n + m) back) long
        ∙ forest_worlds p l (n + size t) ts (omega arith)
        (λ k a c. split k (omega arith) (omega arith) ∙ ap (λ (zs : List ℕ). zs ++ successors_of k (n + size t) back) (tree_none k p l n n t (apart k (omega arith)) (inr a))))

pub rows_worlds : (t : Tree) → worlds_of (tree_rows 0 0 0 t) ≡ worlds 0 t
rows_worlds t = tree_worlds (tree_rows 0 0 0 t) 0 0 0 t refl (λ k a. grind (arith, nat_tests)) (λ k a b. refl)

-- so a complete tree that fits is shown, and its root meets what the sheet's root meets
pub shown_whole : DrawnShown
shown_whole st cl xs t c room h =
    let shows = drawn_shown st cl xs t c room h in
    let same = rows_worlds t in
    record { rows = shows; same = same; truth = λ rule. rw shows (ap (λ (ws : List World). Ok (meets (says rule) ws 0)) same) }
