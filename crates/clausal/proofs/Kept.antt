-- What stays of a session when a rule is added to it.
use Rattle.std.proofs.Common.{◌≡◌, ℕ, zero, suc, ◌+◌, ◌-◌, ◌<◌, Bool, true, false, cond, not, ◌||◌, eqb, List, [], ◌∷◌, ◌++◌, length, get_or, sym, refl, ap, ◌∙◌, subst, ap₂, subst₂, inl, inr, arith, length-append}
use mathlib.Core.Path.{fun_ext}
use mathlib.Core.Bool.{false≢true}
use Rattle.std.proofs.lemmas.Bool.{and_left, ne_eqb, eqb-true, cases_Bool, both_ways, cond-false}
use Rattle.std.proofs.lemmas.List.{get_or_append_left}
use Rattle.clausal.proofs.Gathered.{gather_same}
use Rattle.clausal.specs.Adding.{Adds, Extends, Fresh, Own}
use Rattle.clausal.specs.Clausal.{Clausal, Proper, DefinedBy, boxed, diamonded, gather, modal_name, defines, defines_name, defines_rule, row_at, shape}
use Rattle.clausal.specs.Places.{is_place_of, lit, literals_of, name_of, constant, rule_lit}
use Rattle.clausal.specs.States.{State, rule_at, name_at}
use Rattle.clausal.specs.declared.names.Name.{Name}
use Rattle.clausal.specs.declared.names.Name.TheVariants.{Free as free, Handle as handle, Place as place}
use Rattle.atoms.specs.Clauses.{definitions, is_learnt, negation}
use Rattle.atoms.specs.declared.clauses.Entry.{Entry}
use Rattle.lists.proofs.Members.{kept_others}
use Rattle.lists.specs.Lists.{first_at, some}
use Rattle.modal.specs.declared.row.Row.{Row}
use Rattle.modal.specs.declared.row.Row.TheVariants.{False}
use Rattle.std.proofs.lemmas.List.Elements.{filter-append}

first_same : (p : Name → Bool) → p free ≡ false → (xs ys : List Name) → ((i : ℕ) → p (get_or xs i free) ≡ p (get_or ys i free)) → (some p xs ≡ some p ys) × (some p xs ≡ true → first_at p xs ≡ first_at p ys)
first_same p pf [] [] h = (refl, λ _. refl)
first_same p pf [] (y ∷ ys) h = let (a, b) = first_same p pf [] ys (λ i. h (suc i)) in (a ∙ ap (λ b. b || some p ys) (sym pf ∙ h 0), λ e. absurd (false≢true e))
first_same p pf (x ∷ xs) [] h = let (a, b) = first_same p pf xs [] (λ i. h (suc i)) in let e : (p x || some p xs) ≡ false = ap₂ (λ b c. b || c) (h 0 ∙ pf) a in (e, λ q. absurd (both_ways _ e q))
first_same p pf (x ∷ xs) (y ∷ ys) h = let (a, b) = first_same p pf xs ys (λ i. h (suc i)) in (ap₂ (λ b c. b || c) (h 0) a, go (p x) (p y) (h 0) b)
  where
    go : (s t : Bool) → s ≡ t → (some p xs ≡ true → first_at p xs ≡ first_at p ys) → (s || some p xs) ≡ true → cond s 0 (suc (first_at p xs)) ≡ cond t 0 (suc (first_at p ys))
    go true t e b q = rw (← e) refl
    go false t e b q = rw (← e) (ap suc (b q))

name_same : (p : Name → Bool) → p free ≡ false → (xs ys : List Name) → ((i : ℕ) → p (get_or xs i free) ≡ p (get_or ys i free)) → cond (some p xs) (16 + first_at p xs) 0 ≡ cond (some p ys) (16 + first_at p ys) 0
name_same p pf xs ys h = let (a, b) = first_same p pf xs ys h in go (some p xs) (some p ys) a b
  where
    go : (s t : Bool) → s ≡ t → (s ≡ true → first_at p xs ≡ first_at p ys) → cond s (16 + first_at p xs) 0 ≡ cond t (16 + first_at p ys) 0
    go true t e b = rw (← e) (ap (λ n. 16 + n) (b refl))
    go false t e b = rw (← e) refl

pub written_kept : (st after : State) (l k : ℕ) (es : List Entry) → ((r : ℕ) → r < k → defines_rule st l r ≡ defines_rule after l r) → DefinedBy st l k es → DefinedBy after l k es
written_kept st after l zero es h w = w
written_kept st after l (suc k) es h (old, new, e, o, m) = (old, new, e, written_kept st after l k old (λ r b. h r (omega arith)) o, rw (h k (omega arith)) at m)

module _ (st : State) (rows : List Row) (after : State) (a : Extends st rows after) where
  module _ (r : ℕ) (h : r < length st.rules) where
    pub rule_kept : rule_at after r ≡ rule_at st r
    rule_kept = ap (λ rs. get_or rs r []) a.rules ∙ get_or_append_left st.rules (rows ∷ []) [] r h

    only_own : {A : Type 0} (q : ℕ) (x y : List A) → (r ≡ q → x ≡ y) → cond (eqb r q) x [] ≡ cond (eqb r q) y []
    only_own q x y f = elim (cases_Bool (eqb r q)) [ inl e ↦ ap (λ z. cond (eqb r q) z []) (f (eqb-true r q e)) | inr e ↦ cond-false _ _ _ e ∙ sym (cond-false _ _ _ e) ]

    -- a name that is not rule r's is no place of rule r
    not_own : (x : Name) (k : ℕ) (s : Bool) → Own (length st.rules) x → is_place_of r k s x ≡ false
    not_own free k s o = refl
    not_own (handle q) k s o = refl
    not_own (place q j t) k s o = and_left _ _ (ne_eqb r q (λ e. omega arith))

    place_kept : (l k : ℕ) (s : Bool) (i : ℕ) → is_place_of r k s (name_at after l i) ≡ is_place_of r k s (name_at st l i)
    place_kept l k s i = elim (a.slots l i) [ inl e ↦ ap (is_place_of r k s) e | inr (e, o) ↦ not_own _ k s o ∙ ap (is_place_of r k s) (sym e) ]

    name_of_kept : (l k : ℕ) (s : Bool) → name_of after l r k s ≡ name_of st l r k s
    name_of_kept l k s = name_same (is_place_of r k s) refl (after.names l) (st.names l) (place_kept l k s)

    pub lit_kept : (l : ℕ) (s : Bool) (k : ℕ) → lit after r l s k ≡ lit st r l s k
    lit_kept l s k = ap₂ (λ nm rs. get_or (literals_of nm rs) k constant s) (fun_ext (λ j. fun_ext (λ t. name_of_kept l j t))) rule_kept

    defines_kept : (l n : ℕ) (x : Name) → defines_name after l r n x ≡ defines_name st l r n x
    defines_kept l n free = refl
    defines_kept l n (place q k s) = only_own q _ _ (λ e. subst (λ q. defines n (lit after q l s) (shape (row_at after q k) s) ≡ defines n (lit st q l s) (shape (row_at st q k) s)) e (ap₂ (λ x row. defines n x (shape row s)) (fun_ext (lit_kept l s)) (ap (λ rs. get_or rs k False) rule_kept)))
    defines_kept l n (handle q) = only_own q _ _ (λ e. ap (λ x. (negation n ∷ (x ∷ [])) ∷ []) (subst (λ q. rule_lit after q ≡ rule_lit st q) e (lit_kept 0 true (length (rule_at after r) - 1) ∙ ap (λ rs. lit st r 0 true (length rs - 1)) rule_kept)))

    not_defined : (l n : ℕ) (x : Name) → Own (length st.rules) x → defines_name after l r n x ≡ []
    not_defined l n free o = refl
    not_defined l n (place q k s) o = cond-false _ _ _ (ne_eqb r q (λ e. omega arith))
    not_defined l n (handle q) o = cond-false _ _ _ (ne_eqb r q (λ e. omega arith))

    defines_rule_kept : (l : ℕ) → defines_rule st l r ≡ defines_rule after l r
    defines_rule_kept l = sym (gather_same (defines_name after l r) (defines_name st l r) (λ n. refl) (λ n. refl) 16 (after.names l) (st.names l) (λ m i. elim (a.slots l i) [
      | inl e ↦ ap (defines_name after l r m) e ∙ defines_kept l m _
      | inr (e, o) ↦ not_defined l m _ o ∙ ap (defines_name st l r m) (sym e)
    ]))

module _ (st : State) (rows : List Row) (after : State) (a : Adds st rows after) where
  -- with one rule more it is still the clausal form of its rules
  pub adds_clausal : Clausal st → Clausal after
  adds_clausal cl = record {
    naming = a.naming;
    boxes = a.boxes;
    diamonds = a.diamonds;
    written = λ l.
        (let (new, e, unlearnt, m) = a.entries l in
        let k : suc (length st.rules) ≡ length after.rules = sym (ap length a.extends.rules ∙ (length-append st.rules (rows ∷ []) ∙ omega arith)) in
        let q : definitions (st.entries l) ++ new ≡ definitions (after.entries l) = sym (ap definitions e ∙ (filter-append (λ x. not (is_learnt x)) (st.entries l) new ∙ ap (λ z. definitions (st.entries l) ++ z) (kept_others is_learnt new unlearnt))) in
        subst₂ (DefinedBy after l) k q (definitions (st.entries l), new, refl, written_kept st after l (length st.rules) (definitions (st.entries l)) (λ r h. defines_rule_kept st rows after a.extends r h l) (cl.written l), m));
  }

-- names that are all free give nothing
gather_free : {A : Type 0} (f : ℕ → Name → List A) → ((n : ℕ) → f n free ≡ []) → (n : ℕ) (xs : List Name) → ((i : ℕ) → get_or xs i free ≡ free) → gather f n xs ≡ []
gather_free f e n xs h = gather_same f f e e n xs [] (λ m i. ap (f m) (h i))

-- a new session is the clausal form of no rules
pub fresh_clausal : (st : State) → Fresh st → Clausal st
fresh_clausal st f = record {
  naming = record {
    held = omega (arith, ap length f.rules);
    all_lawful = λ r h. absurd (no_rule r h);
    room = f.room;
    proper = λ l i. subst (Proper st l) (sym (f.names l i)) tt;
    named = λ r p h x t. absurd (no_rule r h);
    handled = λ r h. absurd (no_rule r h);
    once = λ l i j e. inl (f.names l i);
  };
  boxes = λ l. f.boxes l ∙ sym (gather_free (modal_name boxed st l) (λ n. refl) 16 (st.names l) (f.names l));
  diamonds = λ l. f.diamonds l ∙ sym (gather_free (modal_name diamonded st l) (λ n. refl) 16 (st.names l) (f.names l));
  written = λ l. subst₂ (DefinedBy st l) (sym (ap length f.rules)) (sym (kept_others is_learnt (st.entries l) (f.defined l))) (f.entries l);
}
  where
    no_rule : (r : ℕ) → r < length st.rules → ⊥
    no_rule r h = omega (arith, ap length f.rules)
