-- The names of a session and what they read as.
use Rattle.std.proofs.lemmas.Grind.{common_steps}
use Rattle.std.proofs.lemmas.Bool.Decides.{nat_tests}
use Rattle.std.proofs.Common.{◌≡◌, ℕ, ◌+◌, ◌-◌, ◌<◌, Bool, true, not, List, length, sym, refl, ap, ◌∙◌, subst, arith}
use Rattle.std.proofs.lemmas.Bool.{eq-eqb, le-ltb, lt-ltb, ne_eqb, cond-true}
use Rattle.clausal.proofs.Rows.{Lawful, RowOk, form_is, lawful_rows, literal_is, reached_ok}
use Rattle.clausal.proofs.Signed.{says_shape, shape_says}
use Rattle.clausal.specs.Clausal.{Naming, Proper, row_at, shape, takes_name}
use Rattle.clausal.specs.Places.{Reached, is_place_of, lit, literal_of, literals_of, name_of, next, sign_eq, constant}
use Rattle.clausal.specs.States.{State, at_world, handle_of, is_handle_of, reads_name, rule_at, signed, name_at}
use Rattle.clausal.specs.declared.names.Name.{Name}
use Rattle.clausal.specs.declared.names.Name.TheVariants.{Free as free, Handle as handle, Place as place}
use Rattle.atoms.specs.Clauses.{Valuation, obeys_one}
use Rattle.lists.proofs.Firsts.{first_passes}
use Rattle.lists.proofs.Members.{smaller, some_from}
use Rattle.lists.specs.Lists.{In, first_at, here}
use Rattle.modal.specs.Kripke.{Formula, World, falsum, letter, meets, neg, verum}
use Rattle.modal.specs.Rows.{formula_at, form_of, forms}
use Rattle.modal.specs.declared.row.Row.{Row}
use Rattle.modal.specs.declared.row.Row.TheVariants.{And, Box, Diamond, False, Letter, Not, Or, True}

pub same_sign : (s t : Bool) → sign_eq s t ≡ true → s ≡ t
same_sign v1 v2 v3 = grind (arith, common_steps, nat_tests)

pub sign_same : (s : Bool) → sign_eq s s ≡ true
sign_same v1 = grind (arith, common_steps, nat_tests)

place_known : (r k : ℕ) (s : Bool) (x : Name) → is_place_of r k s x ≡ true → x ≡ place r k s
place_known v1 v2 v3 v4 v5 = grind (arith, common_steps, nat_tests)

place_is : (r k : ℕ) (s : Bool) → is_place_of r k s (place r k s) ≡ true
place_is r k s = grind (arith, common_steps, nat_tests)

pub handle_known : (r : ℕ) (x : Name) → is_handle_of r x ≡ true → x ≡ handle r
handle_known v1 v2 v3 = grind (arith, common_steps, nat_tests)

module _ (st : State) where
  -- where a name that is taken stands in its table
  pub place_at : (l r k : ℕ) (s : Bool) → In (place r k s) (st.names l) → (i : ℕ) × (i < length (st.names l)) × (name_of st l r k s ≡ 16 + i) × (name_at st l i ≡ place r k s)
  place_at l r k s h =
      let found = some_from (is_place_of r k s) h (place_is r k s) in
      let (e, i) = first_passes (is_place_of r k s) free (st.names l) found in
      (first_at (is_place_of r k s) (st.names l), i, cond-true _ _ _ found, place_known r k s _ e)

  pub handle_at : (r : ℕ) → In (handle r) (st.names 0) → (i : ℕ) × (i < length (st.names 0)) × (handle_of st r ≡ 16 + i) × (name_at st 0 i ≡ handle r)
  handle_at r h =
      let found = some_from (is_handle_of r) h (eq-eqb r r refl) in
      let (e, i) = first_passes (is_handle_of r) free (st.names 0) found in
      (first_at (is_handle_of r) (st.names 0), i, refl, handle_known r _ e)

  -- how a world reads the name in slot i
  pub reading_name : (l i : ℕ) (u : Valuation) (ws : List World) (w : ℕ) → at_world st l u ws w (16 + i) ≡ reads_name st (u (16 + i)) ws w (name_at st l i)
  reading_name l i u ws w =
      let a = le-ltb (16 + i) 15 (omega arith) in
      let b = ne_eqb (16 + i) 15 (λ e. omega arith) in
      let c : 16 + i - 16 ≡ i = omega arith in
      rw (a, b, c)

  reading_letter : (l a : ℕ) (u : Valuation) (ws : List World) (w : ℕ) → a < 15 → at_world st l u ws w a ≡ meets (letter a) ws w
  reading_letter l a u ws w h = cond-true _ _ _ (lt-ltb a 15 h)

pub flip_sign : (s : Bool) (f : Formula) (ws : List World) (w : ℕ) → meets (signed (not s) f) ws w ≡ meets (signed s (neg f)) ws w
flip_sign v1 v2 v3 v4 = grind (arith, common_steps, nat_tests)

pub fixed : (s : Bool) (v : Valuation) (ws : List World) (w : ℕ) → v 15 ≡ true → (obeys_one v (constant (not s)) ≡ meets (signed s falsum) ws w) × (obeys_one v (constant s) ≡ meets (signed s verum) ws w)
fixed v1 v2 v3 v4 v5 = grind (arith, common_steps, nat_tests)

pub lettered : (s : Bool) (v : Valuation) (a : ℕ) (f : Formula) (ws : List World) (w : ℕ) → v a ≡ meets f ws w → obeys_one v (record { atom = a; holds = s }) ≡ meets (signed s f) ws w
lettered v1 v2 v3 v4 v5 v6 v7 = grind (arith, common_steps, nat_tests)

module _ (st : State) (tb : Naming st) (l : ℕ) (u : Valuation) (ws : List World) (w : ℕ) where
  -- what a place's row says with its sign, at a world of a model
  abbrev pub truth : ℕ → ℕ → Bool → Bool
  truth r k s = meets (signed s (formula_at (forms (rule_at st r)) k)) ws w

  abbrev valued : Valuation
  valued = at_world st l u ws w

  abbrev Reads : ℕ → ℕ → Type 0
  Reads r k = (s : Bool) → Reached (rule_at st r) (record { row = k; plus = s; level = l }) → obeys_one valued (lit st r l s k) ≡ truth r k s

  name_reads : (i r k : ℕ) (s : Bool) → name_at st l i ≡ place r k s → valued (16 + i) ≡ truth r k s
  name_reads i r k s e = reading_name st l i u ws w ∙ ap (reads_name st (u (16 + i)) ws w) e

  -- the literal of a reached place reads as its row with its sign
  pub literal_reads : (r : ℕ) → r < length st.rules → (k : ℕ) → Reads r k
  literal_reads r h = smaller (Reads r) step
    where
      ok : Lawful (rule_at st r)
      ok = lawful_rows _ (tb.all_lawful r h)

      step : (k : ℕ) → ((j : ℕ) → j < k → Reads r j) → Reads r k
      step k rec s x = ap (obeys_one valued) (literal_is (rule_at st r) ok (name_of st l r) _ k s kin) ∙ go (row_at st r k) refl
        where
          kin : k < length (rule_at st r)
          kin = (reached_ok (rule_at st r) ok x).0

          form : (row : Row) → row_at st r k ≡ row → meets (signed s (form_of (forms (rule_at st r)) row)) ws w ≡ truth r k s
          form row e = ap (λ f. meets (signed s f) ws w) (sym (form_is (rule_at st r) ok k kin ∙ ap (form_of (forms (rule_at st r))) e))

          name : (row : Row) → row_at st r k ≡ row → takes_name row ≡ true → valued (name_of st l r k s) ≡ truth r k s
          name row e t = let (i, _, n, at) = place_at st l r k s (tb.named r _ h x (ap takes_name e ∙ t)) in ap valued n ∙ name_reads i r k s at

          go : (row : Row) → row_at st r k ≡ row → obeys_one valued (literal_of (name_of st l r) (literals_of (name_of st l r) (rule_at st r)) k row s) ≡ truth r k s
          go False e = (fixed s valued ws w refl).0 ∙ form False e
          go True e = (fixed s valued ws w refl).1 ∙ form True e
          go (Letter a) e = lettered s valued a (letter a) ws w (reading_letter st l a u ws w (subst (RowOk k) e (ok.ordered k kin))) ∙ form (Letter a) e
          go (Not c) e = rec c (subst (RowOk k) e (ok.ordered k kin)) (not s) (next x (rw e here)) ∙ (flip_sign s (formula_at (forms (rule_at st r)) c) ws w ∙ form (Not c) e)
          go (And c d) e = name (And c d) e refl
          go (Or c d) e = name (Or c d) e refl
          go (Box c) e = name (Box c) e refl
          go (Diamond c) e = name (Diamond c) e refl

  -- a name reads as its row's shape over the rows that it leads to
  pub name_shape : (i r k : ℕ) (s : Bool) → name_at st l i ≡ place r k s → valued (16 + i) ≡ says_shape (formula_at (forms (rule_at st r))) s ws w (shape (row_at st r k) s)
  name_shape i r k s e =
      let (h, x, t) = subst (Proper st l) e (tb.proper l i) in
      let ok = lawful_rows _ (tb.all_lawful r h) in
      name_reads i r k s e ∙ (ap (λ f. meets (signed s f) ws w) (form_is (rule_at st r) ok k (reached_ok (rule_at st r) ok x).0) ∙ shape_says (forms (rule_at st r)) (row_at st r k) s ws w t)
