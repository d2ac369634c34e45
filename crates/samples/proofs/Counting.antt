-- How many worlds the complete trees of a rule have: its diamonds that are demanded all fire, each with one world.
use Rattle.std.proofs.Common.{◌≡◌, ℕ, suc, ◌+◌, ◌-◌, ◌<◌, Bool, true, List, [], ◌∷◌, length, get_or, sym, refl, ap, ◌∙◌, subst, arith}
use mathlib.Core.Bool.{false≢true}
use Rattle.std.proofs.lemmas.Bool.{eq-eqb, and_parts}
use Rattle.lists.specs.Lists.{In, here, there}
use Rattle.lists.proofs.Members.{every_in, kept_all}
use Rattle.modal.specs.declared.row.Row.{Row}
use Rattle.modal.specs.declared.row.Row.TheVariants.{And, Box, Diamond, False, Letter, Not, Or, True}
use Rattle.atoms.specs.Clauses.{Valuation, definitions, makes_all, obeys_one, negation}
use Rattle.atoms.specs.declared.clauses.Literal.{Literal}
use Rattle.clausal.specs.Clausal.{Clausal, defines_name, row_at, shape, takes_name}
use Rattle.clausal.specs.Places.{Reached, last, lit, literal_of, name_of}
use Rattle.clausal.specs.States.{State, fired, handle_of, rule_at}
use Rattle.clausal.specs.Trees.{Complete, CompleteAll, Forest, Tree, more, node, none, size, sizes}
use Rattle.clausal.specs.declared.modal_clauses.ModalClause.{ModalClause}
use Rattle.clausal.specs.declared.names.Name.{Name}
use Rattle.clausal.specs.declared.names.Name.TheVariants.{Free as free, Handle as handle, Place as place}
use Rattle.clausal.specs.declared.places.Place.{Place}
use Rattle.clausal.specs.declared.shapes.Shape.TheVariants.{Both as both, Plain as plain}
use Rattle.clausal.proofs.Forms.{rule_in, only, then_one}
use Rattle.clausal.proofs.Gathered.{gather_in}
use Rattle.clausal.proofs.Reading.{handle_at, place_at}
use Rattle.clausal.proofs.Signed.{Kids, kids}
use Rattle.clausal.proofs.Rows.{lawful_rows, literal_is, reached_ok}
use Rattle.law.specs.Verdicts.{handles}
use Rattle.samples.specs.Laws.{Demanded, diamond_places, left, right, shape_at, whole}
use Rattle.samples.specs.Samples.{HeldBy, numbers}
use Rattle.samples.proofs.Placing.{as_many, from_single, gives}
use Rattle.samples.proofs.Sources.{no_diamonds, shape_named}

-- a tree whose level has no diamond clauses is one world
pub lone : (st : State) (l : ℕ) (xs : List Literal) (t : Tree) → Complete st l xs t → st.diamonds l ≡ [] → size t ≡ 1
lone st l xs (node v none) c e = refl
lone st l xs (node v (more t ts)) (o, m, (d, rest, q, c, cs)) e = let z : d ∷ rest ≡ [] = sym q ∙ ap (fired v) e in absurd cc

-- a world for each diamond that fires, where none fires further on
lone_all : (st : State) (l : ℕ) (bs : List Literal) (ds : List ModalClause) (ts : Forest) → CompleteAll st l bs ds ts → st.diamonds l ≡ [] → sizes ts ≡ length ds
lone_all st l bs ds none c e = sym (ap length c)
lone_all st l bs ds (more t ts) (d, rest, q, c, cs) e =
    let a = lone st l (d.literal ∷ bs) t c e in
    let b = lone_all st l bs rest ts cs e in
    let z = ap length q in
    omega arith

-- the literal of a row that takes a name is the name
named_literal : (nm : ℕ → Bool → ℕ) (ls : List (Bool → Literal)) (k : ℕ) (row : Row) (s : Bool) → takes_name row ≡ true → literal_of nm ls k row s ≡ record { atom = nm k s; holds = true }
named_literal nm ls k False s t = absurd (false≢true t)
named_literal nm ls k True s t = absurd (false≢true t)
named_literal nm ls k (Letter a) s t = absurd (false≢true t)
named_literal nm ls k (Not c) s t = absurd (false≢true t)
named_literal nm ls k (And c e) s t = refl
named_literal nm ls k (Or c e) s t = refl
named_literal nm ls k (Box c) s t = refl
named_literal nm ls k (Diamond c) s t = refl

both_named : (row : Row) (s : Bool) {c e : ℕ} → shape row s ≡ both c e → takes_name row ≡ true
both_named row s {c} {e} q = shape_named row s (λ z. (let n : both c e ≡ plain = sym q ∙ z in absurd cc))

module _ (st : State) (cl : Clausal st) (r : ℕ) (h : r < length st.rules) (v : Valuation) (made : makes_all v (definitions (st.entries 0)) ≡ true) where
  -- a definition of a name that is in
  defined : (i : ℕ) (n : Name) (x : Literal) → i < length (st.names 0) → get_or (st.names 0) i free ≡ n → v (16 + i) ≡ true → In (negation (16 + i) ∷ x ∷ []) (defines_name st 0 r (16 + i) n) → obeys_one v x ≡ true
  defined i n x il e t j =
      let (en, ej, w) = rule_in st 0 (length st.rules) (definitions (st.entries 0)) (cl.written 0) r h (gather_in (defines_name st 0 r) 16 (st.names 0) i il (rw e j)) in
      only v x (then_one v (16 + i) (x ∷ []) en.clause t w (every_in _ ej made))

  abbrev Obeyed : ℕ → Bool → Type 0
  Obeyed k s = Reached (rule_at st r) (record { row = k; plus = s; level = 0 }) × (obeys_one v (lit st r 0 s k) ≡ true)

  named_in : (k : ℕ) (s : Bool) → Obeyed k s → takes_name (row_at st r k) ≡ true → v (name_of st 0 r k s) ≡ true
  named_in k s (x, o) t =
      let ok = lawful_rows _ (cl.naming.all_lawful r h) in
      ap (obeys_one v) (sym (literal_is (rule_at st r) ok (name_of st 0 r) _ k s (reached_ok (rule_at st r) ok x).0 ∙ named_literal (name_of st 0 r) _ k (row_at st r k) s t)) ∙ o

  both_obeyed : (k c e : ℕ) (s : Bool) → Obeyed k s → shape_at (rule_at st r) k s ≡ both c e → Obeyed c s × Obeyed e s
  both_obeyed k c e s (x, o) q =
      let t = both_named (row_at st r k) s q in
      let (i, il, n, at) = place_at st 0 r k s (cl.naming.named r _ h x t) in
      let z = ap v (sym n) ∙ named_in k s (x, o) t in
      let (xc, xe) = subst (Kids (rule_at st r) s 0) q (kids (rule_at st r) k s 0 x) in
      let first : In (negation (16 + i) ∷ lit st r 0 s c ∷ []) (defines_name st 0 r (16 + i) (place r k s)) = rw (eq-eqb r r refl, q) here in
      let second : In (negation (16 + i) ∷ lit st r 0 s e ∷ []) (defines_name st 0 r (16 + i) (place r k s)) = rw (eq-eqb r r refl, q) (there here) in
      ((xc, defined i _ _ il at z first), (xe, defined i _ _ il at z second))

  demanded : v (handle_of st r) ≡ true → {k : ℕ} {s : Bool} → Demanded (rule_at st r) k s → Obeyed k s
  demanded t whole =
      let (i, il, n, at) = handle_at st r (cl.naming.handled r h) in
      let only : In (negation (16 + i) ∷ lit st r 0 true (length (rule_at st r) - 1) ∷ []) (defines_name st 0 r (16 + i) (handle r)) = rw (eq-eqb r r refl) here in
      (last, defined i _ _ il at (ap v (sym n) ∙ t) only)
  demanded t (left {k = k} {c = c} {e = e} {s = s} d q) = (both_obeyed k c e s (demanded t d) q).0
  demanded t (right {k = k} {c = c} {e = e} {s = s} d q) = (both_obeyed k c e s (demanded t d) q).1

-- where one rule is held: its handle in, all diamond clauses of level 0 fire if the places that give them are demanded
module _ (rows : List Row) (forced : (p : Place) → In p (diamond_places rows 0) → Demanded rows p.row p.plus) (flat : diamond_places rows 1 ≡ []) (st : State) (held : HeldBy (rows ∷ []) st) where
  single : length st.rules ≡ 1
  single = ap length held.rules_held

  is : rows ≡ rule_at st 0
  is = sym (ap (λ rs. get_or rs 0 []) held.rules_held)

  fire : (v : Valuation) → makes_all v (definitions (st.entries 0)) ≡ true → v (handle_of st 0) ≡ true → (d : ModalClause) → In d (st.diamonds 0) → v d.name ≡ true
  fire v made t d i =
      let h : 0 < length st.rules = omega (arith, single) in
      let (p, j, e) = from_single st held.clausal 0 single d i in
      let g = gives st held.clausal 0 0 h p j in
      let all = subst (λ rs. (p : Place) → In p (diamond_places rs 0) → Demanded rs p.row p.plus) is forced in
      ap v (sym e) ∙ named_in st held.clausal 0 h v made p.row p.plus (demanded st held.clausal 0 h v made t (all p j)) g.wanted

  no_later : st.diamonds 1 ≡ []
  no_later = no_diamonds st held.clausal 1 (λ r h. (let e : 0 ≡ r = omega (arith, single) in subst (λ k. diamond_places (rule_at st k) 1 ≡ []) e (subst (λ rs. diamond_places rs 1 ≡ []) is flat)))

  pub counted : (t : Tree) → Complete st 0 (handles st (numbers (rows ∷ []))) t → size t ≡ suc (length (diamond_places rows 0))
  counted (node v ts) (o, made, c) =
      let all = kept_all (λ (d : ModalClause). v d.name) (st.diamonds 0) (fire v made (and_parts (v (handle_of st 0)) true o).0) in
      ap suc (lone_all st 1 _ _ ts c no_later ∙ (ap length all ∙ (as_many st held.clausal 0 single ∙ ap (λ rs. length (diamond_places rs 0)) (sym is))))
