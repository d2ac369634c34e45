-- Every atom of a session's clausal form is one of the 64.
use Rattle.std.proofs.Common.{◌≡◌, ℕ, ◌+◌, ◌-◌, ◌<◌, Bool, true, false, cond, not, eqb, ltb, List, [], ◌∷◌, length, sym, refl, ap, subst, arith}
use Rattle.atoms.specs.Clauses.{negation}
use Rattle.clausal.proofs.Gathered.{gathered}
use Rattle.clausal.proofs.Signed.{Kids, kids}
use Rattle.clausal.proofs.Reading.{place_at}
use Rattle.clausal.proofs.Rows.{Lawful, RowOk, lawful_rows, literal_is, reached_ok}
use Rattle.clausal.specs.Clausal.{Naming, Proper, defines, defines_name, defines_rule, row_at, shape, first_clauses, takes_name}
use Rattle.clausal.specs.Places.{Reached, last, lit, literal_of, literals_of, name_of, next, constant, rule_lit}
use Rattle.clausal.specs.States.{State, rule_at, name_at}
use Rattle.clausal.specs.declared.names.Name.{Name}
use Rattle.clausal.specs.declared.names.Name.TheVariants.{Free as free, Handle as handle, Place as place}
use Rattle.clausal.specs.declared.shapes.Shape.{Shape}
use Rattle.clausal.specs.declared.shapes.Shape.TheVariants.{All as all, Both as both, Either as either, One as one, Plain as plain}
use Rattle.atoms.specs.declared.clauses.Literal.{Literal}
use Rattle.lists.proofs.Members.{smaller}
use Rattle.lists.specs.Lists.{In, here, there}
use Rattle.modal.specs.declared.row.Row.{Row}
use Rattle.modal.specs.declared.row.Row.TheVariants.{And, Box, Diamond, False, Letter, Not, Or, True}

abbrev pub Small : List Literal → Type 0
Small xs = (x : Literal) → In x xs → x.atom < 64

small_more : (x : Literal) (xs : List Literal) → x.atom < 64 → Small xs → Small (x ∷ xs)
small_more x xs h k y here = h
small_more x xs h k y (there i) = k y i

small_none : Small []
small_none y i = elim i [ ]

module _ (st : State) (tb : Naming st) (l : ℕ) where
  module _ (r : ℕ) (h : r < length st.rules) where
    abbrev Fits : ℕ → Type 0
    Fits k = (s : Bool) → Reached (rule_at st r) (record { row = k; plus = s; level = l }) → (lit st r l s k).atom < 64

    -- the literal of a reached place has an atom below 64
    pub lit_small : (k : ℕ) → Fits k
    lit_small = smaller Fits step
      where
        ok : Lawful (rule_at st r)
        ok = lawful_rows _ (tb.all_lawful r h)

        step : (k : ℕ) → ((j : ℕ) → j < k → Fits j) → Fits k
        step k rec s x = subst (λ z. z.atom < 64) (sym (literal_is (rule_at st r) ok (name_of st l r) _ k s kin)) (go (row_at st r k) refl)
          where
            kin : k < length (rule_at st r)
            kin = (reached_ok (rule_at st r) ok x).0

            name : takes_name (row_at st r k) ≡ true → name_of st l r k s < 64
            name t = let (i, b, n, _) = place_at st l r k s (tb.named r _ h x t) in let c = tb.room l in omega arith

            go : (row : Row) → row_at st r k ≡ row → (literal_of (name_of st l r) (literals_of (name_of st l r) (rule_at st r)) k row s).atom < 64
            go False e = omega arith
            go True e = omega arith
            go (Letter a) e = let b : a < 15 = subst (RowOk k) e (ok.ordered k kin) in omega arith
            go (Not c) e = rec c (subst (RowOk k) e (ok.ordered k kin)) (not s) (next x (rw e here))
            go (And c d) e = name (ap takes_name e)
            go (Or c d) e = name (ap takes_name e)
            go (Box c) e = name (ap takes_name e)
            go (Diamond c) e = name (ap takes_name e)

    shape_small : (n : ℕ) (s : Bool) (sh : Shape) → n < 64 → Kids (rule_at st r) s l sh → {xs : List Literal} → In xs (defines n (lit st r l s) sh) → Small xs
    shape_small n s plain b x i = elim i [ ]
    shape_small n s (all c) b x i = elim i [ ]
    shape_small n s (one c) b x i = elim i [ ]
    shape_small n s (both c d) b x here = small_more _ _ b (small_more _ _ (lit_small c s x.0) small_none)
    shape_small n s (both c d) b x (there here) = small_more _ _ b (small_more _ _ (lit_small d s x.1) small_none)
    shape_small n s (both c d) b x (there (there i)) = elim i [ ]
    shape_small n s (either c d) b x here = small_more _ _ b (small_more _ _ (lit_small c s x.0) (small_more _ _ (lit_small d s x.1) small_none))
    shape_small n s (either c d) b x (there i) = elim i [ ]

  name_small : (r i : ℕ) → i < length (st.names l) → (x : Name) → name_at st l i ≡ x → {xs : List Literal} → In xs (defines_name st l r (16 + i) x) → Small xs
  name_small r i b free e j = elim j [ ]
  name_small r i b (place q k s) e j = go (eqb r q) j
    where
      go : {xs : List Literal} (c : Bool) → In xs (cond c (defines (16 + i) (lit st q l s) (shape (row_at st q k) s)) []) → Small xs
      go false j = elim j [ ]
      go true j = let (h, x, t) = subst (Proper st l) e (tb.proper l i) in let c = tb.room l in shape_small q h (16 + i) s (shape (row_at st q k) s) (omega arith) (kids (rule_at st q) k s l x) j
  name_small r i b (handle q) e j = go (eqb r q) j
    where
      go : {xs : List Literal} (c : Bool) → In xs (cond c ((negation (16 + i) ∷ (rule_lit st q ∷ [])) ∷ []) []) → Small xs
      go false j = elim j [ ]
      go true (there j) = elim j [ ]
      go true here = let (h, z) = subst (Proper st l) e (tb.proper l i) in let c = tb.room l in small_more _ _ (omega arith) (small_more _ _ (subst (λ n. (lit st q n true (length (rule_at st q) - 1)).atom < 64) z (lit_small q h (length (rule_at st q) - 1) true (subst (λ n. Reached (rule_at st q) (record { row = length (rule_at st q) - 1; plus = true; level = n })) (sym z) last))) small_none)

  -- so each definition can be written as a clause
  pub rule_small : (r : ℕ) {xs : List Literal} → In xs (defines_rule st l r) → Small xs
  rule_small r j = let (i, b, q) = gathered (defines_name st l r) 16 (st.names l) j in name_small r i b (name_at st l i) refl q

pub start_small : (l : ℕ) {xs : List Literal} → In xs (first_clauses l) → Small xs
start_small l i = go (ltb l 8) i
  where
    go : {xs : List Literal} (b : Bool) → In xs (cond b ((constant true ∷ []) ∷ []) []) → Small xs
    go false j = elim j [ ]
    go true (there j) = elim j [ ]
    go true here = small_more _ _ (omega arith) small_none
