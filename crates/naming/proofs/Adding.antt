-- A session with one rule more, from what taking in the rule appends.
use Rattle.std.proofs.lemmas.Grind.{common_steps}
use Rattle.std.proofs.lemmas.Bool.Decides.{nat_tests}
use Rattle.std.proofs.Common.{◌≡◌, ℕ, suc, ◌+◌, ◌-◌, ◌<◌, Bool, true, ◌⊎◌, List, [], ◌∷◌, ◌++◌, map, length, get_or, sym, refl, ap, ◌∙◌, subst, ap₂, inl, inr, arith}
use mathlib.Core.Path.{fun_ext}
use Rattle.std.proofs.lemmas.List.{get_or_past, get_or_append_left, get_or-append_right, get_or_push}
use Rattle.std.proofs.lemmas.Bool.{eq-eqb, cases_lt, cond-true}
use Rattle.clausal.proofs.Kept.{lit_kept, rule_kept}
use Rattle.clausal.proofs.Small.{Small, rule_small}
use Rattle.clausal.proofs.Words.{from_list}
use Rattle.clausal.specs.Adding.{Adds, Extends, Own}
use Rattle.clausal.specs.Clausal.{Naming, Proper, EntryOf, boxed, defines, defines_name, defines_rule, diamonded, gather, modal_name, modals, modals_at, shape}
use Rattle.clausal.specs.Places.{lit, literals_of, name_of}
use Rattle.clausal.specs.States.{State, rule_at}
use Rattle.clausal.specs.declared.names.Name.{Name}
use Rattle.clausal.specs.declared.names.Name.TheVariants.{Free as free, Handle as handle, Place as place}
use Rattle.clausal.specs.declared.shapes.Shape.{Shape}
use Rattle.naming.proofs.OwnNames.{OwnName, names_own}
use Rattle.naming.proofs.Gathers.{gather_append, gather_nothing, gather_in_same, map_gather}
use Rattle.naming.specs.Names.{literal_in, names_for}
use Rattle.naming.specs.Tables.{definition}
use Rattle.naming.specs.TakenIn.{TakenIn, definitions_of_name, modals_of_name}
use Rattle.atoms.specs.Clauses.{clause_from, learnt, negation}
use Rattle.atoms.specs.declared.clauses.Clause.{Clause}
use Rattle.atoms.specs.declared.clauses.Entry.{Entry}
use Rattle.atoms.specs.declared.clauses.Literal.{Literal}
use Rattle.lists.proofs.Members.{get_or_in, in_get_or}
use Rattle.lists.specs.Lists.{In, Matches, here, more, none, there}
use Rattle.modal.specs.declared.row.Row.{Row}
use Rattle.modal.specs.declared.row.Row.TheVariants.{False}

abbrev pub as_definition : List Literal → Entry
as_definition xs = definition (clause_from xs)

pub writes_all : (xss : List (List Literal)) → ((xs : List Literal) → In xs xss → Small xs) → Matches EntryOf xss (map as_definition xss)
writes_all [] h = none
writes_all (xs ∷ xss) h = more (as_definition xs) [] (map as_definition xss) (from_list xs (h xs here)) (writes_all xss (λ ys i. h ys (there i)))

all_definitions : (xss : List (List Literal)) → learnt (map as_definition xss) ≡ []
all_definitions [] = refl
all_definitions (xs ∷ xss) = all_definitions xss

definitions_from : (xss : List (List Literal)) → map definition (map clause_from xss) ≡ map as_definition xss
definitions_from [] = refl
definitions_from (xs ∷ xss) = ap (λ (es : List Entry). as_definition xs ∷ es) (definitions_from xss)

module _ (st : State) (rows : List Row) (after : State) (clauses : ℕ → List Clause) (before : Naming st) (now : Naming after) (pushed : after.rules ≡ st.rules ++ rows ∷ []) (g : TakenIn (length st.rules) rows (λ l. record { names = st.names l; boxes = st.boxes l; diamonds = st.diamonds l }) (λ l. record { names = after.names l; boxes = after.boxes l; diamonds = after.diamonds l }) clauses) (written : (l : ℕ) → after.entries l ≡ st.entries l ++ map definition (clauses l)) where
  abbrev r : ℕ
  r = length st.rules

  abbrev ours : ℕ → List Name
  ours l = names_for r rows l

  own_of : (l : ℕ) {x : Name} → OwnName r rows l x → Own r x
  own_of v1 v2 = grind (arith, common_steps, nat_tests)

  slot : (l i : ℕ) → (get_or (st.names l ++ ours l) i free ≡ get_or (st.names l) i free) ⊎ ((get_or (st.names l) i free ≡ free) × Own r (get_or (st.names l ++ ours l) i free))
  slot l i = elim (cases_lt i (length (st.names l))) [
    | inl h ↦ inl (get_or_append_left (st.names l) _ free i h)
    | inr h ↦ inr (get_or_past (st.names l) i free h, subst (Own r) (sym (get_or-append_right (st.names l) (ours l) (length (st.names l)) i free refl h)) (own (i - length (st.names l))))
  ]
    where
      own : (j : ℕ) → Own r (get_or (ours l) j free)
      own j = elim (cases_lt j (length (ours l))) [ inl k ↦ own_of l (names_own r rows l (get_or_in (ours l) j free k)) | inr k ↦ subst (Own r) (sym (get_or_past (ours l) j free k)) tt ]

  extends : Extends st rows after
  extends = record { rules = pushed; slots = λ l i. subst (λ xs. (get_or xs i free ≡ get_or (st.names l) i free) ⊎ ((get_or (st.names l) i free ≡ free) × Own r (get_or xs i free))) (sym (g l).names) (slot l i) }

  old_rule : (q : ℕ) → q < r → rule_at after q ≡ rule_at st q
  old_rule q h = rule_kept st rows after extends q h

  new_rule : rule_at after r ≡ rows
  new_rule = ap (λ rs. get_or rs r []) (pushed) ∙ get_or_push st.rules rows [] r refl

  -- what the names give
  lit_new : (l : ℕ) (s : Bool) (k : ℕ) → lit after r l s k ≡ literal_in (after.names l) r rows s k
  unfolding literal_in
  lit_new l s k = ap (λ rs. get_or (literals_of (name_of after l r) rs) k (λ t. record { atom = 15; holds = t }) s) new_rule

  modal_old : (under : Shape → List ℕ) (l m : ℕ) (x : Name) → Proper st l x → modal_name under after l m x ≡ modal_name under st l m x
  modal_old under l m free p = refl
  modal_old under l m (handle q) p = refl
  modal_old under l m (place q k s) p = ap₂ (λ (f : ℕ → Literal) (row : Row). modals m f (under (shape row s))) (fun_ext (λ j. lit_kept st rows after extends q p.0 (suc l) s j)) (ap (λ rs. get_or rs k False) (old_rule q p.0))

  modal_new : (under : Shape → List ℕ) (l m : ℕ) (x : Name) → OwnName r rows l x → modal_name under after l m x ≡ modals_of_name under (after.names (suc l)) r rows m x
  modal_new under l m x (inl (k, s, _, _, e)) = subst (λ z. modal_name under after l m z ≡ modals_of_name under (after.names (suc l)) r rows m z) (sym e) (ap₂ (λ (f : ℕ → Literal) (row : Row). modals m f (under (shape row s))) (fun_ext (lit_new (suc l) s)) (ap (λ rs. get_or rs k False) new_rule))
  modal_new under l m x (inr (_, e)) = subst (λ z. modal_name under after l m z ≡ modals_of_name under (after.names (suc l)) r rows m z) (sym e) refl

  old_proper : (l : ℕ) {x : Name} → In x (st.names l) → Proper st l x
  old_proper l i = let (j, _, e) = in_get_or free i in subst (Proper st l) e (before.proper l j)

  modals_new : (under : Shape → List ℕ) (l : ℕ) → modals_at under after l ≡ modals_at under st l ++ gather (modals_of_name under (after.names (suc l)) r rows) (16 + length (st.names l)) (ours l)
  modals_new under l = ap (gather (modal_name under after l) 16) (g l).names ∙ (gather_append (modal_name under after l) 16 (st.names l) (ours l) ∙ ap₂ ◌++◌ (gather_in_same _ _ 16 (st.names l) (λ m x i. modal_old under l m x (old_proper l i))) (gather_in_same _ _ (16 + length (st.names l)) (ours l) (λ m x i. modal_new under l m x (names_own r rows l i))))

  defines_old : (l m : ℕ) (x : Name) → Proper st l x → defines_name after l r m x ≡ []
  defines_old v1 v2 v3 v4 = grind (arith, common_steps, nat_tests)

  defines_new : (l m : ℕ) (x : Name) → OwnName r rows l x → defines_name after l r m x ≡ definitions_of_name (after.names l) r rows m x
  defines_new l m x (inl (k, s, _, _, e)) = subst (λ z. defines_name after l r m z ≡ definitions_of_name (after.names l) r rows m z) (sym e) (cond-true _ _ _ (eq-eqb r r refl) ∙ ap₂ (λ (f : ℕ → Literal) (row : Row). defines m f (shape row s)) (fun_ext (lit_new l s)) (ap (λ rs. get_or rs k False) new_rule))
  defines_new l m x (inr (z, e)) = subst (λ y. defines_name after l r m y ≡ definitions_of_name (after.names l) r rows m y) (sym e) (cond-true _ _ _ (eq-eqb r r refl) ∙ ap (λ (y : Literal). (negation m ∷ (y ∷ [])) ∷ []) (lit_new 0 true (length (rule_at after r) - 1) ∙ (ap (λ rs. literal_in (after.names 0) r rows true (length rs - 1)) new_rule ∙ ap (λ j. literal_in (after.names j) r rows true (length rows - 1)) (sym z))))

  rule_defines : (l : ℕ) → defines_rule after l r ≡ gather (definitions_of_name (after.names l) r rows) (16 + length (st.names l)) (ours l)
  rule_defines l = ap (gather (defines_name after l r) 16) (g l).names ∙ (gather_append (defines_name after l r) 16 (st.names l) (ours l) ∙ ap₂ ◌++◌ (gather_in_same _ (λ m x. []) 16 (st.names l) (λ m x i. defines_old l m x (old_proper l i)) ∙ gather_nothing 16 (st.names l)) (gather_in_same _ _ (16 + length (st.names l)) (ours l) (λ m x i. defines_new l m x (names_own r rows l i))))

  -- so what is appended is exactly the clausal form of the rule
  pub adds : ((l : ℕ) → st.boxes l ≡ modals_at boxed st l) → ((l : ℕ) → st.diamonds l ≡ modals_at diamonded st l) → Adds st rows after
  adds bs ds = record {
    extends = extends;
    naming = now;
    boxes = λ l. (g l).boxes ∙ (ap (λ t. t ++ gather (modals_of_name boxed (after.names (suc l)) r rows) (16 + length (st.names l)) (ours l)) (bs l) ∙ sym (modals_new boxed l));
    diamonds = λ l. (g l).diamonds ∙ (ap (λ t. t ++ gather (modals_of_name diamonded (after.names (suc l)) r rows) (16 + length (st.names l)) (ours l)) (ds l) ∙ sym (modals_new diamonded l));
    entries = λ l. (map as_definition (defines_rule after l r), written l ∙ ap (λ (t : List Entry). st.entries l ++ t) (ap (map definition) ((g l).clauses ∙ map_gather clause_from (definitions_of_name (after.names l) r rows) (16 + length (st.names l)) (ours l)) ∙ definitions_from _ ∙ ap (map as_definition) (sym (rule_defines l))), all_definitions (defines_rule after l r), writes_all (defines_rule after l r) (λ xs i. rule_small after now l r i));
  }
