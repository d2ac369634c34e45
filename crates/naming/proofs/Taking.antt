-- A rule taken in at every level.
use Rattle.std.specs.Iterator.{Yields}
use Rattle.std.specs.Iterator.Adapters.{skip_source, skip_count, skip_steps, enumerate_source, enumerate_count, enumerate_steps}
use Rattle.std.proofs.iter.Yields.{fronts}
use Rattle.std.specs.Slice.Iter.{iter_rest}
use Rattle.std.specs.declared.slice.Iter.{Iter}
use Rattle.std.specs.declared.iter.Enumerate.{Enumerate}
use Rattle.std.specs.declared.iter.Skip.{Skip}
use Rattle.std.proofs.lemmas.Iterator.Consumers.{YieldsList-at, YieldsList-from_enumerate, YieldsList-turn, YieldsList-end}
use Rattle.std.proofs.lemmas.Iterator.Adapters.{YieldsList-from_skip}
use Rattle.std.proofs.lemmas.Iterator.{YieldsList, YieldsList-from_slice}
use Rattle.std.proofs.lemmas.Grind.{common_steps}
use Rattle.std.proofs.lemmas.Bool.Decides.{nat_tests}
use Rattle.std.proofs.Common.{◌≡◌, ℕ, suc, ◌+◌, ◌<◌, ◌≤◌, List, [], ◌++◌, map, length, get_or, set, drop, sym, refl, ap, ◌∙◌, subst, subst₂, ap₂, inl, inr, arith, Option, Some, None, Bor}
use Rattle.std.proofs.lemmas.List.{get_or_past, get_or_default, get_or-drop, drop_at, length-drop, length-map}
use Rattle.std.proofs.lemmas.List.FromFn.{length-enumerate_from, get_or-enumerate_from}
use Rattle.std.specs.List.{enumerate_from}
use Rattle.std.proofs.lemmas.Bool.{cases_eq, cases_lt}
use Rattle.clausal.proofs.Rows.{Lawful}
use Rattle.clausal.specs.Clausal.{boxed, diamonded, gather}
use Rattle.clausal.specs.declared.names.Name.{Name}
use Rattle.clausal.specs.declared.names.Name.TheVariants.{Free as free}
use Rattle.naming.proofs.OwnNames.{OwnName, names_beyond, names_own}
use Rattle.naming.specs.Names.{names_for}
use Rattle.naming.specs.TakenIn.{TakenAt, NameInRule, clauses_of_name, modals_of_name}
use Rattle.fixed_list.specs.Items.{items_of}
use Rattle.fixed_list.specs.declared.ArrayVec.{ArrayVec}
use Rattle.naming.specs.Levels.{LevelLists, no_lists, lists_of, lists_at, names_at, level_items}
use Rattle.naming.specs.declared.level_table.LevelTable.{LevelTable}
use Rattle.naming.proofs.AtLevel.{level_beyond, read_set, read_other}
use Rattle.atoms.specs.declared.clauses.Clause.{Clause}
use Rattle.lists.proofs.Members.{get_or_in}
use Rattle.modal.specs.declared.row.Row.{Row}

module _ (r : ℕ) (rows : List Row) (ok : Lawful rows) (l : ℕ) where
  own_in_rule : (x : Name) → OwnName r rows l x → NameInRule rows x
  own_in_rule v1 v2 = grind (arith, common_steps, nat_tests)

  pub name_in_rule : (i : ℕ) → NameInRule rows (get_or (names_for r rows l) i free)
  name_in_rule i = elim (cases_lt i (length (names_for r rows l))) [
    | inl k ↦ own_in_rule _ (names_own r rows l (get_or_in (names_for r rows l) i free k))
    | inr k ↦ subst (NameInRule rows) (sym (get_or_past (names_for r rows l) i free k)) tt
  ]

-- the names from the old length on are the new ones
pub taken_names : (n n' o : List Name) (m : ℕ) → m ≡ length n → n' ≡ n ++ o → drop m n' ≡ o
taken_names n n' o m e q = ap₂ drop e q ∙ drop_at n o (length n) refl

-- what comes from a slice gone over with its indices, but for the first m
pub indexed_come : {A : Type 0} {s : Iter A} {e : Enumerate (Iter A)} {k i : Skip (Enumerate (Iter A))} (m : ℕ) (xs : List A) → iter_rest s ≡ xs → enumerate_source e ≡ s → enumerate_count e ≡ 0 → skip_source k ≡ e → skip_count k ≡ m → i ≡ k
    → YieldsList {B = ℕ × A} (skip_steps (enumerate_steps fronts)) (λ p. (p.0, p.1.now)) i (drop m (enumerate_from 0 xs))
indexed_come m xs rest source zero_count skips count at = YieldsList-at at (YieldsList-from_skip m (YieldsList-at skips (YieldsList-from_enumerate (YieldsList-at source (YieldsList-from_slice xs rest)) zero_count)) count)

module _ {A : Type 0} {i : Skip (Enumerate (Iter A))} {r : Option (ℕ × Bor A)} (m : ℕ) (xs : List A) (t u : Skip (Enumerate (Iter A))) (come : YieldsList {B = ℕ × A} (skip_steps (enumerate_steps fronts)) (λ p. (p.0, p.1.now)) i (drop m (enumerate_from 0 xs))) (ys : List (ℕ × Bor A)) (y : Yields (skip_steps (enumerate_steps fronts)) i ys t) (step : skip_steps (enumerate_steps fronts) t r u) where
  pub indexed_turn : (p : ℕ × Bor A) (d : A) → r ≡ Some p → (length ys < length (drop m xs)) × (p.0 ≡ m + length ys) × (get_or (drop m xs) (length ys) d ≡ p.1.now)
  indexed_turn p d e =
      let n = length ys in
      let x : A = p.1.now in
      let (h, g) = YieldsList-turn come ys t y r u p e step in
      let all : length (enumerate_from 0 xs) ≡ length xs = length-enumerate_from 0 xs in
      let inside : m + n < length xs = omega (arith, length-drop m (enumerate_from 0 xs)) in
      let q : ◌≡◌ {A = ℕ × A} (p.0, x) (0 + (m + n), get_or xs (m + n) x) = g ∙ get_or-drop m (enumerate_from 0 xs) n (p.0, x) ∙ get_or-enumerate_from 0 xs (m + n) (p.0, x) inside in
      (omega (arith, length-drop m xs), ap (λ (z : ℕ × A). z.0) q ∙ omega arith, get_or-drop m xs n d ∙ get_or_default xs (m + n) d x inside ∙ sym (ap (λ (z : ℕ × A). z.1) q))

  pub indexed_end : r ≡ None → length (drop m xs) ≤ length ys
  indexed_end e = let end = YieldsList-end come ys t y r u e step in omega (arith, end.1, length-drop m xs, length-drop m (enumerate_from 0 xs), length-enumerate_from 0 xs)

-- beyond the last level nothing is taken
pub taken_beyond : (r : ℕ) (rows : List Row) → Lawful rows → (l : ℕ) (further : List Name) → 8 ≤ l → TakenAt r rows l further no_lists no_lists []
taken_beyond r rows ok l further h =
    let e : names_for r rows l ≡ [] = names_beyond r rows ok l h in
    record { names = sym e; room = omega arith; boxes = sym (ap (gather (modals_of_name boxed further r rows) 16) e); diamonds = sym (ap (gather (modals_of_name diamonded further r rows) 16) e); clauses = sym (ap (gather (clauses_of_name [] r rows) 16) e) }

pub beyond_taken : (r : ℕ) (rows : List Row) → Lawful rows → (ts : List LevelTable) (vs : List (ArrayVec Clause 96)) → length ts ≡ 8 → length vs ≡ 8 → (k : ℕ) → 8 ≤ k → TakenAt r rows k (names_at ts (suc k)) (lists_at ts k) (lists_at ts k) (level_items vs k)
beyond_taken r rows ok ts vs e q k h =
    subst₂ (λ (s : LevelLists) (cs : List Clause). TakenAt r rows k (names_at ts (suc k)) s s cs) (sym (level_beyond ts k (omega arith))) (sym (get_or_past (map items_of vs) k [] (omega (arith, length-map vs (items_of {T = Clause} {N = 96}))))) (taken_beyond r rows ok k (names_at ts (suc k)) h)

same_taken : (r : ℕ) (rows : List Row) (l : ℕ) (further further' : List Name) (b b' a a' : LevelLists) (cs cs' : List Clause) → further ≡ further' → b ≡ b' → a ≡ a' → cs ≡ cs' → TakenAt r rows l further b a cs → TakenAt r rows l further' b' a' cs'
same_taken r rows l further further' b b' a a' cs cs' e f g h t =
    subst₂ (λ (x y : LevelLists). TakenAt r rows l further' x y cs') f g (subst₂ (λ (n : List Name) (v : List Clause). TakenAt r rows l n b a v) e h t)

-- one level more is taken in, below those that are
module _ (r : ℕ) (rows : List Row) (zs ts : List LevelTable) (vs : List (ArrayVec Clause 96)) (m : ℕ) (x : LevelTable) (v : ArrayVec Clause 96) (h : m < length ts) (k : m < length vs) (done : (j : ℕ) → m + 1 ≤ j → TakenAt r rows j (names_at ts (suc j)) (lists_at zs j) (lists_at ts j) (level_items vs j)) (left : (j : ℕ) → j < m + 1 → lists_at ts j ≡ lists_at zs j) (further : List Name) (f : further ≡ names_at ts (m + 1)) (t : TakenAt r rows m further (lists_at ts m) (lists_of x) (items_of v)) where
  other : (j : ℕ) → (j ≡ m → ⊥) → lists_at (set ts m x) j ≡ lists_at ts j
  other = read_other lists_of no_lists ts m x

  taken_here : TakenAt r rows m (names_at (set ts m x) (suc m)) (lists_at zs m) (lists_at (set ts m x) m) (level_items (set vs m v) m)
  taken_here =
      let e : m + 1 ≡ suc m = omega arith in
      same_taken r rows m _ _ _ _ _ _ _ _ (f ∙ ap (names_at ts) e ∙ sym (ap (λ (s : LevelLists). s.names) (other (suc m) (λ q. omega arith)))) (left m (omega arith)) (sym (read_set lists_of no_lists ts m x h)) (sym (read_set items_of [] vs m v k)) t

  pub level_taken : (j : ℕ) → m ≤ j → TakenAt r rows j (names_at (set ts m x) (suc j)) (lists_at zs j) (lists_at (set ts m x) j) (level_items (set vs m v) j)
  level_taken j b = elim (cases_eq j m) [
    | inl q ↦ subst (λ i. TakenAt r rows i (names_at (set ts m x) (suc i)) (lists_at zs i) (lists_at (set ts m x) i) (level_items (set vs m v) i)) (sym q) taken_here
    | inr q ↦ same_taken r rows j _ _ _ _ _ _ _ _ (sym (ap (λ (s : LevelLists). s.names) (other (suc j) (λ e. omega arith)))) refl (sym (other j q)) (sym (read_other items_of [] vs m v j q)) (done j (omega arith))
  ]

  pub level_left : (j : ℕ) → j < m → lists_at (set ts m x) j ≡ lists_at zs j
  level_left j b = other j (λ q. omega arith) ∙ left j (omega arith)
