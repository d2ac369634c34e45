-- A level never holds more than 97 definitions.
use Rattle.std.proofs.lemmas.Grind.{common_steps}
use Rattle.std.proofs.lemmas.Bool.Decides.{nat_tests}
use Rattle.std.proofs.Common.{◌≡◌, ℕ, zero, suc, ◌+◌, ◌*◌, ◌≤◌, Bool, cond, eqb, List, [], ◌∷◌, length, sym, refl, ap, ◌∙◌, subst, ap₂, inl, inr, arith, length-append}
use Rattle.std.proofs.lemmas.Bool.{cases_eq, ne_eqb, cond-false}
use Rattle.clausal.specs.Clausal.{Clausal, EntryOf, DefinedBy, defines, defines_name, defines_rule, gather, row_at, shape, first_clauses}
use Rattle.clausal.specs.Places.{lit}
use Rattle.clausal.specs.States.{State}
use Rattle.clausal.specs.declared.names.Name.{Name}
use Rattle.clausal.specs.declared.names.Name.TheVariants.{Free as free, Handle as handle, Place as place}
use Rattle.clausal.specs.declared.shapes.Shape.{Shape}
use Rattle.atoms.specs.Clauses.{definitions}
use Rattle.atoms.specs.declared.clauses.Entry.{Entry}
use Rattle.atoms.specs.declared.clauses.Literal.{Literal}
use Rattle.lists.proofs.Members.{match_length}

sum : (ℕ → ℕ) → ℕ → ℕ
sum f zero = 0
sum f (suc k) = f k + sum f k

sum_add : (f g : ℕ → ℕ) (k : ℕ) → sum (λ r. f r + g r) k ≡ sum f k + sum g k
unfolding sum
sum_add f g zero = refl
sum_add f g (suc k) = let e = sum_add f g k in omega arith

sum_same : (f g : ℕ → ℕ) (k : ℕ) → ((r : ℕ) → f r ≡ g r) → sum f k ≡ sum g k
unfolding sum
sum_same f g zero h = refl
sum_same f g (suc k) h = ap₂ (λ a b. a + b) (h k) (sum_same f g k h)

sum_one : (f : ℕ → ℕ) (q n : ℕ) → ((r : ℕ) → (r ≡ q → ⊥) → f r ≡ 0) → f q ≤ n → (k : ℕ) → (sum f k ≤ n) × (k ≤ q → sum f k ≡ 0)
unfolding sum
sum_one f q n z h zero = (omega arith, λ _. refl)
sum_one f q n z h (suc k) = let (a, b) = sum_one f q n z h k in elim (cases_eq k q) [
  | inl e ↦ (let s : f k ≤ n = subst (λ r. f r ≤ n) (sym e) h in let w = b (omega arith) in (omega arith, λ l. absurd (omega arith)))
  | inr e ↦ (let w = z k e in (omega arith, λ l. let u = b (omega arith) in omega arith))
]

module _ (st : State) (l : ℕ) where
  abbrev gives : ℕ → Name → ℕ → ℕ
  gives n x r = length (defines_name st l r n x)

  defines_two : (n : ℕ) (x : ℕ → Literal) (sh : Shape) → length (defines n x sh) ≤ 2
  defines_two v1 v2 v3 = grind (arith, common_steps, nat_tests)

  cond_le : {A : Type 0} (b : Bool) (xs : List A) → length xs ≤ 2 → length (cond b xs []) ≤ 2
  cond_le v1 v2 v3 = grind (arith, common_steps, nat_tests)

  -- a name gives at most two definitions, to one rule
  name_two : (n : ℕ) (x : Name) (k : ℕ) → sum (gives n x) k ≤ 2
  name_two n free k = (sum_one (gives n free) 0 2 (λ r e. refl) (omega arith) k).0
  name_two n (place q j s) k = (sum_one (gives n (place q j s)) q 2 (λ r e. ap length (cond-false _ _ _ (ne_eqb r q e))) (cond_le (eqb q q) _ (defines_two n (lit st q l s) (shape (row_at st q j) s))) k).0
  name_two n (handle q) k = (sum_one (gives n (handle q)) q 2 (λ r e. ap length (cond-false _ _ _ (ne_eqb r q e))) (cond_le (eqb q q) _ (omega arith)) k).0

  table_two : (n : ℕ) (xs : List Name) (k : ℕ) → sum (λ r. length (gather (defines_name st l r) n xs)) k ≤ 2 * length xs
  table_two n [] k = omega (arith, (sum_one (λ r. 0) 0 0 (λ r e. refl) (omega arith) k).0)
  table_two n (x ∷ xs) k =
      let e = sum_same (λ r. length (gather (defines_name st l r) n (x ∷ xs))) (λ r. gives n x r + length (gather (defines_name st l r) (suc n) xs)) k (λ r. length-append (defines_name st l r n x) (gather (defines_name st l r) (suc n) xs)) in
      let f = sum_add (gives n x) (λ r. length (gather (defines_name st l r) (suc n) xs)) k in
      let a = name_two n x k in
      let b = table_two (suc n) xs k in
      omega arith

  written_length : (k : ℕ) (es : List Entry) → DefinedBy st l k es → length es ≡ length (first_clauses l) + sum (λ r. length (defines_rule st l r)) k
  unfolding sum
  written_length zero es m = sym (match_length EntryOf m) ∙ omega arith
  written_length (suc k) es (old, new, e, o, m) =
      let a = ap length e ∙ length-append old new in
      let b = written_length k old o in
      let c = match_length EntryOf m in
      omega arith

  start_one : length (first_clauses l) ≤ 1
  start_one = grind (arith, common_steps, nat_tests)

  pub few_definitions_lem : Clausal st → length (definitions (st.entries l)) ≤ 97
  few_definitions_lem cl =
      let a = written_length (length st.rules) (definitions (st.entries l)) (cl.written l) in
      let b = table_two 16 (st.names l) (length st.rules) in
      let c = cl.naming.room l in
      let d = start_one in
      omega arith
