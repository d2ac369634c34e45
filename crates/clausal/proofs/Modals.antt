-- Box and diamond clauses: by rising names, of atoms below 64, and none at the last level.
use Rattle.std.proofs.lemmas.Grind.{common_steps}
use Rattle.std.proofs.lemmas.Bool.Decides.{nat_tests}
use Rattle.std.proofs.Common.{◌≡◌, ℕ, suc, ◌+◌, ◌<◌, ◌≤◌, Bool, List, [], ◌∷◌, ◌++◌, length, get_or, sym, refl, ap, subst, arith}
use Rattle.lists.specs.Lists.{In, here, there}
use Rattle.lists.proofs.Members.{no_members}
use Rattle.atoms.specs.declared.clauses.Literal.{Literal}
use Rattle.clausal.specs.Clausal.{boxed, diamonded, shape, row_at, modals, modal_name, modals_at, gather, Rising, Orderly, Proper, Naming}
use Rattle.clausal.specs.Places.{Reached, lit}
use Rattle.clausal.specs.States.{State, rule_at}
use Rattle.clausal.specs.declared.modal_clauses.ModalClause.{ModalClause}
use Rattle.clausal.specs.declared.names.Name.{Name}
use Rattle.clausal.specs.declared.names.Name.TheVariants.{Free as free, Place as place, Handle as handle}
use Rattle.clausal.specs.declared.shapes.Shape.{Shape}
use Rattle.clausal.proofs.Forms.{Source, modal_from, boxed_is, diamonded_is}
use Rattle.clausal.proofs.Gathered.{gathered}
use Rattle.clausal.proofs.Signed.{Kids, kids}
use Rattle.clausal.proofs.Rows.{lawful_rows, reached_ok}
use Rattle.clausal.proofs.Small.{lit_small}

pub modals_length : (n : ℕ) (f : ℕ → Literal) (cs : List ℕ) → length (modals n f cs) ≡ length cs
modals_length n f [] = refl
modals_length n f (c ∷ cs) = ap suc (modals_length n f cs)

-- every name gives at most one clause, which has that name
module _ (under : Shape → List ℕ) (one : (z : Shape) → length (under z) ≤ 1) (st : State) (l : ℕ) where
  named_so : (n : ℕ) (x : Name) {m : ModalClause} → In m (modal_name under st l n x) → m.name ≡ n
  named_so n free i = elim i [ ]
  named_so n (handle r) i = elim i [ ]
  named_so n (place r k s) i = go (under (shape (row_at st r k) s)) i
    where
      go : (cs : List ℕ) {m : ModalClause} → In m (modals n (lit st r (suc l) s) cs) → m.name ≡ n
      go [] j = elim j [ ]
      go (c ∷ cs) here = refl
      go (c ∷ cs) (there j) = go cs j

  at_most : (n : ℕ) (x : Name) → length (modal_name under st l n x) ≤ 1
  at_most n free = omega arith
  at_most n (handle r) = omega arith
  at_most n (place r k s) = let a = modals_length n (lit st r (suc l) s) (under (shape (row_at st r k) s)) in let b = one (shape (row_at st r k) s) in omega arith

  later : (n : ℕ) (xs : List Name) {m : ModalClause} → In m (gather (modal_name under st l) n xs) → n ≤ m.name
  later n xs i = let (k, h, j) = gathered (modal_name under st l) n xs i in let e = named_so (n + k) (get_or xs k free) j in omega arith

  rise : (n : ℕ) (xs : List Name) → Rising (gather (modal_name under st l) n xs)
  rise n [] = tt
  rise n (x ∷ xs) = join (modal_name under st l n x) (at_most n x) (λ m i. named_so n x i) (rise (suc n) xs)
    where
      join : (front : List ModalClause) → length front ≤ 1 → ((m : ModalClause) → In m front → m.name ≡ n) → Rising (gather (modal_name under st l) (suc n) xs) → Rising (front ++ gather (modal_name under st l) (suc n) xs)
      join [] h f r = r
      join (m ∷ []) h f r = ((λ e i. let a = later (suc n) xs i in let b = f m here in omega arith), r)
      join (m ∷ (k ∷ ms)) h f r = absurd (omega arith)

pub boxed_one : (z : Shape) → length (boxed z) ≤ 1
boxed_one v1 = grind (arith, common_steps, nat_tests)

pub diamonded_one : (z : Shape) → length (diamonded z) ≤ 1
diamonded_one v1 = grind (arith, common_steps, nat_tests)

-- the row under a box or a diamond is reached one level further
abbrev Under : (Shape → List ℕ) → State → ℕ → Type 0
Under under st l = (r k : ℕ) (s : Bool) (c : ℕ) → Reached (rule_at st r) (record { row = k; plus = s; level = l }) → In c (under (shape (row_at st r k) s)) → Reached (rule_at st r) (record { row = c; plus = s; level = suc l })

boxed_under : (st : State) (l : ℕ) → Under boxed st l
boxed_under st l r k s c x i = subst (Kids (rule_at st r) s l) (boxed_is (shape (row_at st r k) s) i) (kids (rule_at st r) k s l x)

diamonded_under : (st : State) (l : ℕ) → Under diamonded st l
diamonded_under st l r k s c x i = subst (Kids (rule_at st r) s l) (diamonded_is (shape (row_at st r k) s) i) (kids (rule_at st r) k s l x)

module _ (under : Shape → List ℕ) (st : State) (tb : Naming st) (l : ℕ) (deeper : Under under st l) where
  module _ (m : ModalClause) (i : In m (modals_at under st l)) where
    src : Source under st l m
    src = modal_from under st l m i

    held : src.rule < length st.rules
    held = (subst (Proper st l) src.is (tb.proper l src.slot)).0

    child : Reached (rule_at st src.rule) (record { row = src.child; plus = src.sign; level = suc l })
    child = deeper src.rule src.row src.sign src.child (subst (Proper st l) src.is (tb.proper l src.slot)).1 src.shaped

    all_small : (m.name < 64) × (m.literal.atom < 64)
    all_small =
        let a = src.within in
        let b = tb.room l in
        let c = lit_small st tb (suc l) src.rule held src.child src.sign child in
        let name : m.name ≡ 16 + src.slot = ap (λ (x : ModalClause). x.name) src.modal in
        (omega arith, subst (λ (x : ModalClause). x.literal.atom < 64) (sym src.modal) c)

    shallow : l < 7
    shallow = let d = (reached_ok (rule_at st src.rule) (lawful_rows _ (tb.all_lawful src.rule held)) child).1 in omega arith

  orderly : ((z : Shape) → length (under z) ≤ 1) → Orderly l (modals_at under st l)
  orderly one = record { rising = rise under one st l 16 (st.names l); small = all_small; last = λ h. no_members (modals_at under st l) (λ m i. let s = shallow m i in omega arith) }

pub boxes_orderly : (st : State) → Naming st → (l : ℕ) → Orderly l (modals_at boxed st l)
boxes_orderly st tb l = orderly boxed st tb l (boxed_under st l) boxed_one

pub diamonds_orderly : (st : State) → Naming st → (l : ℕ) → Orderly l (modals_at diamonded st l)
diamonds_orderly st tb l = orderly diamonded st tb l (diamonded_under st l) diamonded_one
