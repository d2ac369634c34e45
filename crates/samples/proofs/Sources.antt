-- The diamond clauses of a level and the places that give them.
use Rattle.std.proofs.lemmas.Grind.{common_steps}
use Rattle.std.proofs.lemmas.Bool.Decides.{nat_tests}
use Rattle.std.proofs.Common.{◌≡◌, ℕ, ◌+◌, ◌<◌, Bool, true, eqb, [], length, get_or, sym, refl, ap, ◌∙◌, subst, inl, inr, arith}
use Rattle.std.proofs.lemmas.Bool.{and_from, eq-eqb}
use Rattle.lists.specs.Lists.{In}
use Rattle.lists.proofs.Members.{get_or_in, in_kept, no_members}
use Rattle.clausal.specs.Clausal.{Clausal, Proper, diamonded, shape, takes_name}
use Rattle.clausal.specs.Places.{name_of}
use Rattle.clausal.specs.States.{State, rule_at}
use Rattle.clausal.specs.declared.modal_clauses.ModalClause.{ModalClause}
use Rattle.clausal.specs.declared.names.Name.TheVariants.{Free as free, Place as place}
use Rattle.clausal.specs.declared.places.Place.{Place}
use Rattle.clausal.specs.declared.shapes.Shape.{Shape}
use Rattle.clausal.specs.declared.shapes.Shape.TheVariants.{One as one, Plain as plain}
use Rattle.clausal.proofs.Counted.{reached_counted}
use Rattle.clausal.proofs.Forms.{diamonded_is, modal_from}
use Rattle.clausal.proofs.Reading.{place_at}
use Rattle.clausal.proofs.Rows.{lawful_rows}
use Rattle.samples.specs.Laws.{diamond_places, is_diamond_at}
use Rattle.modal.specs.declared.row.Row.{Row}
use Rattle.modal.specs.declared.row.Row.TheVariants.{And, Box, Diamond, False, Letter, Not, Or, True}

one_place : {c : ℕ} (sh : Shape) → sh ≡ one c → eqb (length (diamonded sh)) 1 ≡ true
one_place v1 v2 = grind (arith, common_steps, nat_tests)

-- a row whose shape leads to other rows takes a name
pub shape_named : (row : Row) (s : Bool) → (shape row s ≡ plain → ⊥) → takes_name row ≡ true
shape_named False s n = absurd (n refl)
shape_named True s n = absurd (n refl)
shape_named (Letter a) s n = absurd (n refl)
shape_named (Not a) s n = absurd (n refl)
shape_named (And a b) s n = refl
shape_named (Or a b) s n = refl
shape_named (Box a) s n = refl
shape_named (Diamond a) s n = refl

module _ (st : State) (cl : Clausal st) (l : ℕ) where
  -- a slot that stands for a place gives the place's name
  slot_name : (i r k : ℕ) (s : Bool) → i < length (st.names l) → get_or (st.names l) i free ≡ place r k s → name_of st l r k s ≡ 16 + i
  slot_name i r k s h e =
      let (j, _, n, q) = place_at st l r k s (subst (λ x. In x (st.names l)) e (get_or_in (st.names l) i free h)) in
      n ∙ ap (λ m. 16 + m) (elim (cl.naming.once l j i (q ∙ sym e)) [ inl z ↦ (let c : place r k s ≡ free = sym q ∙ z in absurd cc) | inr z ↦ z ])

  -- the place that a diamond clause comes from
  pub record From (d : ModalClause) : Type 0 where
    pub rule : ℕ
    pub held : rule < length st.rules
    pub at : Place
    pub listed : In at (diamond_places (rule_at st rule) l)
    pub named : name_of st l rule at.row at.plus ≡ d.name

  pub source : (d : ModalClause) → In d (st.diamonds l) → From d
  source d i =
      let f = modal_from diamonded st l d (subst (In d) (cl.diamonds l) i) in
      let (h, x, t) = subst (Proper st l) f.is (cl.naming.proper l f.slot) in
      record {
        rule = f.rule;
        held = h;
        at = record { row = f.row; plus = f.sign; level = l };
        listed = in_kept (is_diamond_at (rule_at st f.rule) l) (reached_counted (rule_at st f.rule) (lawful_rows _ (cl.naming.all_lawful f.rule h)) x) (and_from _ _ (eq-eqb l l refl) (one_place _ (diamonded_is _ f.shaped)));
        named = slot_name f.slot f.rule f.row f.sign f.within f.is ∙ ap (λ (m : ModalClause). m.name) (sym f.modal);
      }

  -- rules with no such place give no diamond clause
  pub no_diamonds : ((r : ℕ) → r < length st.rules → diamond_places (rule_at st r) l ≡ []) → st.diamonds l ≡ []
  no_diamonds h = no_members (st.diamonds l) (λ d i. (let f = source d i in elim (subst (In f.at) (h f.rule f.held) f.listed) [ ]))
