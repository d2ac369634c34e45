-- What was learnt stays forced, and made of names in use, when a rule is added.
use Rattle.std.proofs.Common.{◌≡◌, ℕ, suc, ◌+◌, ◌<◌, Bool, true, false, not, List, length, get_or, sym, ap, ◌∙◌, subst, inl, inr, arith}
use Rattle.std.proofs.lemmas.List.{get_or_past}
use Rattle.std.proofs.lemmas.Bool.{and_parts, both_ways, cases_eq, cases_lt, or_cases}
use Rattle.lists.specs.Lists.{In}
use Rattle.modal.specs.Kripke.{World, meets}
use Rattle.modal.specs.Rows.{forms, formula_at}
use Rattle.modal.specs.declared.row.Row.{Row}
use Rattle.modal.specs.declared.row.Row.TheVariants.{False}
use Rattle.atoms.specs.Clauses.{Valuation}
use Rattle.atoms.specs.Sets.{has}
use Rattle.atoms.specs.declared.clauses.Clause.{Clause}
use Rattle.atoms.proofs.Making.{makes_where}
use Rattle.clausal.specs.Adding.{Extends, Adds}
use Rattle.clausal.specs.Clausal.{boxed, diamonded, shape, modals_at, Proper, Naming, Clausal}
use Rattle.clausal.specs.Places.{lit}
use Rattle.clausal.specs.States.{State, signed, reads_name, at_world, Forced}
use Rattle.clausal.specs.declared.modal_clauses.ModalClause.{ModalClause}
use Rattle.clausal.specs.declared.names.Name.{Name}
use Rattle.clausal.specs.declared.names.Name.TheVariants.{Free as free, Place as place}
use Rattle.clausal.specs.declared.shapes.Shape.{Shape}
use Rattle.clausal.proofs.Forms.{makes_from, Source, modal_from, modal_in}
use Rattle.clausal.proofs.Kept.{rule_kept, lit_kept}
use Rattle.clausal.proofs.Reading.{reading_name}
use Rattle.law.specs.Verdicts.{NegatesNames}

-- a slot that stands for something is in the list
taken_in : (xs : List Name) (i : ℕ) {r k : ℕ} {s : Bool} → get_or xs i free ≡ place r k s → i < length xs
taken_in xs i e = elim (cases_lt i (length xs)) [ inl h ↦ h | inr h ↦ (let q = get_or_past xs i free h in let z : ◌≡◌ {A = ℕ} 0 1 = cc in absurd (omega arith)) ]

module _ (st : State) (rows : List Row) (after : State) (a : Extends st rows after) where
  -- a name that is taken goes on standing for what it stands for
  slot_kept : (l i r k : ℕ) (s : Bool) → get_or (st.names l) i free ≡ place r k s → get_or (after.names l) i free ≡ place r k s
  slot_kept l i r k s e = elim (a.slots l i) [ inl q ↦ q ∙ e | inr (q, _) ↦ (let z : ◌≡◌ {A = ℕ} 0 1 = cc in absurd (omega arith)) ]

  reading_kept : (r : ℕ) → r < length st.rules → (l i k : ℕ) (s : Bool) → get_or (st.names l) i free ≡ place r k s → (u : Valuation) (ws : List World) (w : ℕ) → at_world after l u ws w (16 + i) ≡ at_world st l u ws w (16 + i)
  reading_kept r h l i k s e u ws w =
      reading_name after l i u ws w ∙ ap (reads_name after (u (16 + i)) ws w) (slot_kept l i r k s e) ∙ ap (λ (rs : List Row). meets (signed s (formula_at (forms rs) k)) ws w) (rule_kept st rows after a r h) ∙ sym (reading_name st l i u ws w ∙ ap (reads_name st (u (16 + i)) ws w) e)

  -- box and diamond clauses stay, and so do their names' readings
  module _ (under : Shape → List ℕ) (tb : Naming st) (l : ℕ) (m : ModalClause) (i : In m (modals_at under st l)) where
    src : Source under st l m
    src = modal_from under st l m i

    held : src.rule < length st.rules
    held = (subst (Proper st l) src.is (tb.proper l src.slot)).0

    modal_kept : In m (modals_at under after l)
    modal_kept =
        let e = slot_kept l src.slot src.rule src.row src.sign src.is in
        let q : m ≡ record { name = 16 + src.slot; literal = lit after src.rule (suc l) src.sign src.child } = src.modal ∙ ap (λ x. record { name = 16 + src.slot; literal = x }) (sym (lit_kept st rows after a src.rule held (suc l) src.sign src.child)) in
        let u = subst (λ (rs : List Row). In src.child (under (shape (get_or rs src.row False) src.sign))) (sym (rule_kept st rows after a src.rule held)) src.shaped in
        subst (λ (z : ModalClause). In z (modals_at under after l)) (sym q) (modal_in under after l src.slot src.rule src.row src.sign src.child (taken_in (after.names l) src.slot e) e u)

    modal_reads : (u : Valuation) (ws : List World) (w : ℕ) → at_world after l u ws w m.name ≡ at_world st l u ws w m.name
    modal_reads u ws w =
        let n : m.name ≡ 16 + src.slot = ap (λ (z : ModalClause). z.name) src.modal in
        ap (at_world after l u ws w) n ∙ reading_kept src.rule held l src.slot src.row src.sign src.is u ws w ∙ ap (at_world st l u ws w) (sym n)

module _ (st : State) (rows : List Row) (after : State) (a : Adds st rows after) (cl : Clausal st) (l : ℕ) (c : Clause) (g : NegatesNames st l c) where
  box_in : (b : ModalClause) → In b (st.boxes l) → In b (modals_at boxed st l)
  box_in b i = subst (In b) (cl.boxes l) i

  diamond_in : In g.diamond (modals_at diamonded st l)
  diamond_in = subst (In g.diamond) (cl.diamonds l) g.from

  pub negates_kept : NegatesNames after l c
  negates_kept = record {
    diamond = g.diamond;
    from = subst (In g.diamond) (sym (a.diamonds l)) (modal_kept st rows after a.extends diamonded cl.naming l g.diamond diamond_in);
    named = g.named;
    others = λ n h e ne. (let (b, i, q) = g.others n h e ne in (b, subst (In b) (sym (a.boxes l)) (modal_kept st rows after a.extends boxed cl.naming l b (box_in b i)), q));
    no_plain = g.no_plain;
  }

  -- an atom that the clause negates reads as before
  negated_reads : (n : ℕ) → n < 64 → has c.negated n ≡ true → (u : Valuation) (ws : List World) (w : ℕ) → at_world after l u ws w n ≡ at_world st l u ws w n
  negated_reads n h e u ws w = elim (cases_eq n g.diamond.name) [
    | inl q ↦ ap (at_world after l u ws w) q ∙ modal_reads st rows after a.extends diamonded cl.naming l g.diamond diamond_in u ws w ∙ ap (at_world st l u ws w) (sym q)
    | inr q ↦ (let (b, i, z) = g.others n h e q in ap (at_world after l u ws w) (sym z) ∙ modal_reads st rows after a.extends boxed cl.naming l b (box_in b i) u ws w ∙ ap (at_world st l u ws w) z)
  ]

  pub forced_kept : Forced st l c → Forced after l c
  forced_kept f u m w h =
      let (n, b, e) = makes_where (at_world st l u m.worlds w) c (f u m w h) in
      elim (or_cases _ _ e) [
        | inl z ↦ absurd (both_ways _ (g.no_plain n b) (and_parts _ _ z).0)
        | inr z ↦ (let (x, y) = and_parts _ _ z in makes_from (at_world after l u m.worlds w) c (record { atom = n; holds = false }) b x (ap not (negated_reads n b x u m.worlds w) ∙ y))
      ]
