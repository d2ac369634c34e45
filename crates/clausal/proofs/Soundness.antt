-- Soundness: at every world of every model the clausal form is true, and so is what is learnt from it.
use Rattle.std.proofs.Common.{◌≡◌, ℕ, suc, ◌+◌, ◌-◌, ◌<◌, Bool, true, false, cond, eqb, ltb, List, [], ◌∷◌, length, sym, refl, ap, ◌∙◌, subst, inl, inr}
use Rattle.std.proofs.lemmas.Bool.{and_parts, or_cases}
use Rattle.clausal.proofs.Forms.{Holding, unless, boxed_is, clause_made, diamonded_is, modal_from, written_from}
use Rattle.clausal.proofs.Gathered.{gathered}
use Rattle.clausal.proofs.Signed.{Kids, kids, says_shape}
use Rattle.clausal.proofs.Reading.{literal_reads, name_shape, reading_name}
use Rattle.clausal.specs.Clausal.{Clausal, Naming, Proper, boxed, defines, defines_name, diamonded, row_at, shape, first_clauses}
use Rattle.clausal.specs.Places.{Reached, last, lit, constant, rule_lit}
use Rattle.clausal.specs.States.{State, at_world, reads_name, rule_at, name_at}
use Rattle.clausal.specs.declared.modal_clauses.ModalClause.{ModalClause}
use Rattle.clausal.specs.declared.names.Name.{Name}
use Rattle.clausal.specs.declared.names.Name.TheVariants.{Free as free, Handle as handle, Place as place}
use Rattle.clausal.specs.declared.shapes.Shape.{Shape}
use Rattle.clausal.specs.declared.shapes.Shape.TheVariants.{All as all, Both as both, Either as either, One as one, Plain as plain}
use Rattle.atoms.specs.Clauses.{Valuation, definitions, makes, obeys_one, negation}
use Rattle.atoms.specs.declared.clauses.Entry.{Entry}
use Rattle.atoms.specs.declared.clauses.Literal.{Literal}
use Rattle.lists.proofs.Members.{every_in, some_in}
use Rattle.lists.specs.Lists.{In, here, there}
use Rattle.modal.specs.Kripke.{World, world}
use Rattle.modal.specs.Rows.{formula_at, forms}

module _ (st : State) (cl : Clausal st) (l : ℕ) (u : Valuation) (ws : List World) (w : ℕ) where
  abbrev tb : Naming st
  tb = cl.naming

  abbrev val : Valuation
  val = at_world st l u ws w

  -- the definitions of a name
  shape_true : (r n : ℕ) (s : Bool) (sh : Shape) → r < length st.rules → Kids (rule_at st r) s l sh → val n ≡ says_shape (formula_at (forms (rule_at st r))) s ws w sh → {xs : List Literal} → In xs (defines n (lit st r l s) sh) → Holding val xs
  shape_true r n s plain h k e i = elim i [ ]
  shape_true r n s (all c) h k e i = elim i [ ]
  shape_true r n s (one c) h k e i = elim i [ ]
  shape_true r n s (both c d) h k e here = unless val n _ (λ t. (_, here, literal_reads st tb l u ws w r h c s k.0 ∙ (and_parts _ _ (sym e ∙ t)).0))
  shape_true r n s (both c d) h k e (there here) = unless val n _ (λ t. (_, here, literal_reads st tb l u ws w r h d s k.1 ∙ (and_parts _ _ (sym e ∙ t)).1))
  shape_true r n s (both c d) h k e (there (there i)) = elim i [ ]
  shape_true r n s (either c d) h k e here = unless val n _ (λ t. elim (or_cases _ _ (sym e ∙ t)) [ inl q ↦ (_, here, literal_reads st tb l u ws w r h c s k.0 ∙ q) | inr q ↦ (_, there here, literal_reads st tb l u ws w r h d s k.1 ∙ q) ])
  shape_true r n s (either c d) h k e (there i) = elim i [ ]

  -- a definition of a name of the table is true
  name_true : (r i : ℕ) (x : Name) → name_at st l i ≡ x → {xs : List Literal} → In xs (defines_name st l r (16 + i) x) → Holding val xs
  name_true r i free e j = elim j [ ]
  name_true r i (place q k s) e j = go (eqb r q) j
    where
      go : {xs : List Literal} (b : Bool) → In xs (cond b (defines (16 + i) (lit st q l s) (shape (row_at st q k) s)) []) → Holding val xs
      go false j = elim j [ ]
      go true j = let (h, x, t) = subst (Proper st l) e (tb.proper l i) in shape_true q (16 + i) s (shape (row_at st q k) s) h (kids (rule_at st q) k s l x) (name_shape st tb l u ws w i q k s e) j
  name_true r i (handle q) e j = go (eqb r q) j
    where
      go : {xs : List Literal} (b : Bool) → In xs (cond b ((negation (16 + i) ∷ (rule_lit st q ∷ [])) ∷ []) []) → Holding val xs
      go false j = elim j [ ]
      go true (there j) = elim j [ ]
      go true here = let (h, z) = subst (Proper st l) e (tb.proper l i) in unless val (16 + i) _ (λ t. (_, here, subst (λ n. obeys_one val (lit st q n true (length (rule_at st q) - 1)) ≡ true) z (literal_reads st tb l u ws w q h (length (rule_at st q) - 1) true (subst (λ n. Reached (rule_at st q) (record { row = length (rule_at st q) - 1; plus = true; level = n })) (sym z) last) ∙ (sym (reading_name st l i u ws w ∙ ap (reads_name st (u (16 + i)) ws w) e) ∙ t))))

  start_true : {xs : List Literal} → In xs (first_clauses l) → Holding val xs
  start_true i = go (ltb l 8) i
    where
      go : {xs : List Literal} (b : Bool) → In xs (cond b ((constant true ∷ []) ∷ []) []) → Holding val xs
      go false j = elim j [ ]
      go true (there j) = elim j [ ]
      go true here = (_, here, refl)

  -- every definition is true at every world
  pub definition_true : (e : Entry) → In e (definitions (st.entries l)) → makes val e.clause ≡ true
  definition_true e i =
      let (xs, c, from) = written_from st l (length st.rules) (definitions (st.entries l)) (cl.written l) i in
      let truly : Holding val xs = elim from [ inl j ↦ start_true j | inr (r, j) ↦ (let (k, _, q) = gathered (defines_name st l r) 16 (st.names l) j in name_true r k (name_at st l k) refl q) ] in
      clause_made val c truly.0 truly.1 truly.2

  -- box and diamond clauses: the name at a world, and the literal at its successors
  pub box_true : (m : ModalClause) → In m (st.boxes l) → val m.name ≡ true → (v : Valuation) (y : ℕ) → In y (world ws w).successors → obeys_one (at_world st (suc l) v ws y) m.literal ≡ true
  box_true m i t v y j =
      let f = modal_from boxed st l m (subst (In m) (cl.boxes l) i) in
      let (h, x, _) = subst (Proper st l) f.is (tb.proper l f.slot) in
      let e = boxed_is (shape (row_at st f.rule f.row) f.sign) f.shaped in
      let reads = name_shape st tb l u ws w f.slot f.rule f.row f.sign f.is ∙ ap (says_shape (formula_at (forms (rule_at st f.rule))) f.sign ws w) e in
      let kid = subst (Kids (rule_at st f.rule) f.sign l) e (kids (rule_at st f.rule) f.row f.sign l x) in
      ap (λ q. obeys_one (at_world st (suc l) v ws y) q.literal) f.modal ∙ (literal_reads st tb (suc l) v ws y f.rule h f.child f.sign kid ∙ every_in _ j (sym reads ∙ (ap (λ q. val q.name) (sym f.modal) ∙ t)))

  pub diamond_true : (m : ModalClause) → In m (st.diamonds l) → val m.name ≡ true → (v : Valuation) → (y : ℕ) × In y (world ws w).successors × (obeys_one (at_world st (suc l) v ws y) m.literal ≡ true)
  diamond_true m i t v =
      let f = modal_from diamonded st l m (subst (In m) (cl.diamonds l) i) in
      let (h, x, _) = subst (Proper st l) f.is (tb.proper l f.slot) in
      let e = diamonded_is (shape (row_at st f.rule f.row) f.sign) f.shaped in
      let reads = name_shape st tb l u ws w f.slot f.rule f.row f.sign f.is ∙ ap (says_shape (formula_at (forms (rule_at st f.rule))) f.sign ws w) e in
      let kid = subst (Kids (rule_at st f.rule) f.sign l) e (kids (rule_at st f.rule) f.row f.sign l x) in
      let (y, j, q) = some_in _ (world ws w).successors (sym reads ∙ (ap (λ q. val q.name) (sym f.modal) ∙ t)) in
      (y, j, ap (λ q. obeys_one (at_world st (suc l) v ws y) q.literal) f.modal ∙ (literal_reads st tb (suc l) v ws y f.rule h f.child f.sign kid ∙ q))
