-- Completeness: the root of a complete tree meets what its valuation names.
use Rattle.std.proofs.Common.{◌≡◌, ℕ, suc, ◌+◌, ◌-◌, ◌<◌, Bool, true, not, ◌&&◌, ltb, List, [], ◌∷◌, length, sym, refl, ap, ◌∙◌, subst, inl, inr, arith}
use Rattle.std.proofs.lemmas.Bool.{and_from, or_left, or_right, eq-eqb, lt-ltb}
use Rattle.clausal.proofs.Flat.{model_of, Sits, SitsAll, sits_alone}
use Rattle.clausal.proofs.Forms.{Holding, clause_cases, modal_in, of_two, only, rule_in, start_in, then_one}
use Rattle.clausal.proofs.Gathered.{gather_in}
use Rattle.clausal.proofs.Reading.{fixed, flip_sign, handle_at, lettered, place_at}
use Rattle.clausal.proofs.Signed.{Below, Kids, kids, says_shape, shape_below, shape_says}
use Rattle.clausal.proofs.Rows.{Lawful, RowOk, form_is, lawful_rows, literal_is, reached_ok}
use Rattle.clausal.specs.Clausal.{Clausal, boxed, defines, defines_name, diamonded, row_at, shape, takes_name}
use Rattle.clausal.specs.Places.{Reached, last, lit, literal_of, literals_of, name_of, next, constant, rule_lit}
use Rattle.clausal.specs.States.{State, fired, handle_of, literals, rule_at, signed, name_at}
use Rattle.clausal.specs.Laws.{RootMeets}
use Rattle.clausal.specs.Trees.{root, Complete, CompleteAll, Forest, Tree, more, node, none, roots, size, worlds}
use Rattle.clausal.specs.declared.modal_clauses.ModalClause.{ModalClause}
use Rattle.clausal.specs.declared.names.Name.TheVariants.{Handle as handle, Place as place}
use Rattle.clausal.specs.declared.shapes.Shape.{Shape}
use Rattle.clausal.specs.declared.shapes.Shape.TheVariants.{All as all, Both as both, Either as either, One as one, Plain as plain}
use Rattle.atoms.specs.Clauses.{makes_all, Valuation, definitions, obeys_one, negation}
use Rattle.atoms.specs.declared.clauses.Literal.{Literal}
use Rattle.lists.proofs.Members.{every_in, in_kept, smaller, some_from}
use Rattle.lists.specs.Lists.{In, every, here, some, there}
use Rattle.modal.specs.Kripke.{World, letter, meets}
use Rattle.modal.specs.Rows.{formula_at, form_of, forms}
use Rattle.modal.specs.declared.row.Row.{Row}
use Rattle.modal.specs.declared.row.Row.TheVariants.{And, Box, Diamond, False, Letter, Not, Or, True}

root_obeys : (st : State) (l : ℕ) (xs : List Literal) (t : Tree) → Complete st l xs t → (x : Literal) → In x xs → obeys_one (root t) x ≡ true
root_obeys st l xs (node v ts) c x i = every_in (obeys_one v) i c.0

in_literals : {m : ModalClause} {ms : List ModalClause} → In m ms → In m.literal (literals ms)
in_literals here = here
in_literals (there i) = there (in_literals i)

module _ (st : State) (ws : List World) (l : ℕ) (bs : List Literal) where
  -- a test that every successor's tree passes, and the tree of a fired diamond
  every_part : (p : ℕ → Bool) → ((d : ModalClause) (t : Tree) (n : ℕ) → Complete st l (d.literal ∷ bs) t → Sits ws n t → p n ≡ true) → (ts : Forest) (n : ℕ) (ds : List ModalClause) → CompleteAll st l bs ds ts → SitsAll ws n ts → every p (roots n ts) ≡ true
  every_part p f none n ds c s = refl
  every_part p f (more t ts) n ds (d, rest, e, c, cs) s = and_from _ _ (f d t n c s.0) (every_part p f ts (n + size t) rest cs s.1)

  abbrev Part : ModalClause → List ℕ → Type 0
  Part d ns = (t : Tree) × (m : ℕ) × In m ns × Complete st l (d.literal ∷ bs) t × Sits ws m t

  first_or_later : (t : Tree) (n : ℕ) (ns : List ℕ) {d b : ModalClause} {rest : List ModalClause} → In d (b ∷ rest) → Complete st l (b.literal ∷ bs) t → Sits ws n t → (In d rest → Part d ns) → Part d (n ∷ ns)
  first_or_later t n ns here c s rec = (t, n, here, c, s)
  first_or_later t n ns (there i) c s rec = let (u, m, j, d, z) = rec i in (u, m, there j, d, z)

  part_with : (d : ModalClause) (ts : Forest) (n : ℕ) (ds : List ModalClause) → In d ds → CompleteAll st l bs ds ts → SitsAll ws n ts → Part d (roots n ts)
  part_with d none n ds i c s = elim (subst (In d) c i) [ ]
  part_with d (more t ts) n ds i (b, rest, e, c, cs) s = first_or_later t n (roots (n + size t) ts) (subst (In d) e i) c s.0 (λ j. part_with d ts (n + size t) rest j cs s.1)

module _ (st : State) (cl : Clausal st) (ws : List World) (r : ℕ) (h : r < length st.rules) where
  -- row k is met with its sign wherever a complete tree's root has the place's literal
  abbrev Met : ℕ → Type 0
  Met k = (s : Bool) (l : ℕ) (xs : List Literal) (t : Tree) (n : ℕ) → Reached (rule_at st r) (record { row = k; plus = s; level = l }) → Complete st l xs t → Sits ws n t → obeys_one (root t) (lit st r l s k) ≡ true → meets (signed s (formula_at (forms (rule_at st r)) k)) ws n ≡ true

  abbrev ok : Lawful (rule_at st r)
  ok = lawful_rows _ (cl.naming.all_lawful r h)

  module _ (k : ℕ) (rec : (j : ℕ) → j < k → Met j) (s : Bool) (l : ℕ) (xs : List Literal) (v : Valuation) (ts : Forest) (n : ℕ) (x : Reached (rule_at st r) (record { row = k; plus = s; level = l })) (c : Complete st l xs (node v ts)) (sits : Sits ws n (node v ts)) where
    kin : k < length (rule_at st r)
    kin = (reached_ok (rule_at st r) ok x).0

    -- the place has a name, which is in: by its shape
    module _ (i : ℕ) (il : i < length (st.names l)) (e : name_at st l i ≡ place r k s) (o : v (16 + i) ≡ true) (sh : Shape) (q : shape (row_at st r k) s ≡ sh) where
      given : (ys : List Literal) → In (negation (16 + i) ∷ ys) (defines (16 + i) (lit st r l s) sh) → Holding v ys
      given ys j =
          let here' : In (negation (16 + i) ∷ ys) (defines_name st l r (16 + i) (place r k s)) = rw (eq-eqb r r refl, q) j in
          let (en, ej, w) = rule_in st l (length st.rules) (definitions (st.entries l)) (cl.written l) r h (gather_in (defines_name st l r) 16 (st.names l) i il (rw e here')) in
          then_one v (16 + i) ys en.clause o w (every_in _ ej c.1)

      box_fires : (a : ℕ) → In a (boxed sh) → In (record { name = 16 + i; literal = lit st r (suc l) s a }) (fired v (st.boxes l))
      box_fires a j = in_kept (λ m. v m.name) (subst (In _) (sym (cl.boxes l)) (modal_in boxed st l i r k s a il e (rw q j))) o

      diamond_fires : (a : ℕ) → In a (diamonded sh) → In (record { name = 16 + i; literal = lit st r (suc l) s a }) (fired v (st.diamonds l))
      diamond_fires a j = in_kept (λ m. v m.name) (subst (In _) (sym (cl.diamonds l)) (modal_in diamonded st l i r k s a il e (rw q j))) o

    shape_met : (i : ℕ) → i < length (st.names l) → name_at st l i ≡ place r k s → v (16 + i) ≡ true → (sh : Shape) → shape (row_at st r k) s ≡ sh → Kids (rule_at st r) s l sh → Below k sh → says_shape (formula_at (forms (rule_at st r))) s ws n sh ≡ true
    shape_met i il e o plain q y b = refl
    shape_met i il e o (both a d) q y b = and_from _ _ (rec a b.0 s l xs (node v ts) n y.0 c sits (only v _ (given i il e o (both a d) q _ here))) (rec d b.1 s l xs (node v ts) n y.1 c sits (only v _ (given i il e o (both a d) q _ (there here))))
    shape_met i il e o (either a d) q y b = elim (of_two v _ _ (given i il e o (either a d) q _ here)) [
      | inl z ↦ or_left _ _ (rec a b.0 s l xs (node v ts) n y.0 c sits z)
      | inr z ↦ or_right _ _ (rec d b.1 s l xs (node v ts) n y.1 c sits z)
    ]
    shape_met i il e o (all a) q y b =
        ap (λ w. every (meets (signed s (formula_at (forms (rule_at st r)) a)) ws) w.successors) sits.0 ∙
        every_part st ws (suc l) (literals (fired v (st.boxes l))) _ (λ d t m ct mt. rec a b s (suc l) (d.literal ∷ literals (fired v (st.boxes l))) t m y ct mt (root_obeys st (suc l) _ t ct _ (there (in_literals (box_fires i il e o (all a) q a here))))) ts (suc n) (fired v (st.diamonds l)) c.2 sits.1
    shape_met i il e o (one a) q y b =
        let (t, m, j, ct, mt) = part_with st ws (suc l) (literals (fired v (st.boxes l))) _ ts (suc n) (fired v (st.diamonds l)) (diamond_fires i il e o (one a) q a here) c.2 sits.1 in
        ap (λ w. some (meets (signed s (formula_at (forms (rule_at st r)) a)) ws) w.successors) sits.0 ∙
        some_from _ j (rec a b s (suc l) _ t m y ct mt (root_obeys st (suc l) (lit st r (suc l) s a ∷ literals (fired v (st.boxes l))) t ct _ here))

    module _ (o : obeys_one v (lit st r l s k) ≡ true) where
      form : (row : Row) → row_at st r k ≡ row → meets (signed s (form_of (forms (rule_at st r)) row)) ws n ≡ true → meets (signed s (formula_at (forms (rule_at st r)) k)) ws n ≡ true
      form row e m = ap (λ f. meets (signed s f) ws n) (form_is (rule_at st r) ok k kin ∙ ap (form_of (forms (rule_at st r))) e) ∙ m

      obeyed : (row : Row) → row_at st r k ≡ row → obeys_one v (literal_of (name_of st l r) (literals_of (name_of st l r) (rule_at st r)) k row s) ≡ true
      obeyed row e = ap (obeys_one v) (sym (literal_is (rule_at st r) ok (name_of st l r) _ k s kin ∙ ap (λ z. literal_of (name_of st l r) (literals_of (name_of st l r) (rule_at st r)) k z s) e)) ∙ o

      top : v 15 ≡ true
      top =
          let e : ltb l 8 ≡ true = lt-ltb l 8 (omega (arith, (reached_ok (rule_at st r) ok x).1)) in
          let (en, ej, w) = start_in st l (length st.rules) (definitions (st.entries l)) (cl.written l) {xs = constant true ∷ []} (rw e here) in
          only v _ (clause_cases v w (every_in _ ej c.1))

      named_met : takes_name (row_at st r k) ≡ true → v (name_of st l r k s) ≡ true → meets (signed s (formula_at (forms (rule_at st r)) k)) ws n ≡ true
      named_met t z =
          let (i, il, m, e) = place_at st l r k s (cl.naming.named r _ h x t) in
          form (row_at st r k) refl (shape_says (forms (rule_at st r)) (row_at st r k) s ws n t ∙ shape_met i il e (ap v (sym m) ∙ z) (shape (row_at st r k) s) refl (kids (rule_at st r) k s l x) (shape_below k (row_at st r k) s (ok.ordered k kin)))

      step : (row : Row) → row_at st r k ≡ row → meets (signed s (formula_at (forms (rule_at st r)) k)) ws n ≡ true
      step False e = form False e (sym (fixed s v ws n top).0 ∙ obeyed False e)
      step True e = form True e (sym (fixed s v ws n top).1 ∙ obeyed True e)
      step (Letter a) e = form (Letter a) e (sym (lettered s v a (letter a) ws n (sym (ap (λ w. w.letters a) sits.0 ∙ ap (λ b. b && v a) (lt-ltb a 15 (subst (RowOk k) e (ok.ordered k kin)))))) ∙ obeyed (Letter a) e)
      step (Not a) e = form (Not a) e (sym (flip_sign s (formula_at (forms (rule_at st r)) a) ws n) ∙ rec a (subst (RowOk k) e (ok.ordered k kin)) (not s) l xs (node v ts) n (next x (rw e here)) c sits (obeyed (Not a) e))
      step (And a d) e = named_met (ap takes_name e) (obeyed (And a d) e)
      step (Or a d) e = named_met (ap takes_name e) (obeyed (Or a d) e)
      step (Box a) e = named_met (ap takes_name e) (obeyed (Box a) e)
      step (Diamond a) e = named_met (ap takes_name e) (obeyed (Diamond a) e)

  met : (k : ℕ) → ((j : ℕ) → j < k → Met j) → Met k
  met k rec s l xs (node v ts) n x c sits o = step k rec s l xs v ts n x c sits o (row_at st r k) refl

  -- the truth lemma
  row_met : (k : ℕ) → Met k
  row_met = smaller Met met

module _ (st : State) (cl : Clausal st) (l : ℕ) (xs : List Literal) (t : Tree) (whole : Complete st l xs t) where
  -- a rule whose handle is in: its definition has the literal of the last row's place
  last_obeyed : (r : ℕ) → r < length st.rules → l ≡ 0 → (u : Tree) → Complete st l xs u → root u (handle_of st r) ≡ true → obeys_one (root u) (lit st r l true (length (rule_at st r) - 1)) ≡ true
  last_obeyed r h z (node v ts) c o =
      let (n, nl, e, q) = handle_at st r (cl.naming.handled r h) in
      let j : In (negation (16 + n) ∷ (rule_lit st r ∷ [])) (defines_name st 0 r (16 + n) (handle r)) = rw (eq-eqb r r refl) here in
      let (en, ej, w) = rule_in st 0 (length st.rules) (definitions (st.entries 0)) (cl.written 0) r h (gather_in (defines_name st 0 r) 16 (st.names 0) n nl (rw q j)) in
      let made = subst (λ m. makes_all v (definitions (st.entries m)) ≡ true) z c.1 in
      subst (λ m. obeys_one v (lit st r m true (length (rule_at st r) - 1)) ≡ true) (sym z) (only v _ (then_one v (16 + n) _ en.clause (ap v (sym e) ∙ o) w (every_in _ ej made)))

  pub root_meets : RootMeets st l t
  root_meets = record {
    model = model_of t;
    laid = refl;
    places = λ r k s h x o. row_met st cl (worlds 0 t) r h k s l xs t 0 x whole (sits_alone t) o;
    handles = λ r h z o. row_met st cl (worlds 0 t) r h (length (rule_at st r) - 1) true l xs t 0 (subst (λ m. Reached (rule_at st r) (record { row = length (rule_at st r) - 1; plus = true; level = m })) (sym z) last) whole (sits_alone t) (last_obeyed r h z t whole o);
  }
