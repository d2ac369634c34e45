-- The places of a rule that give diamond clauses, each one clause: where one rule is held, there are as many as clauses.
use Rattle.std.proofs.Common.{◌≡◌, ℕ, suc, ◌+◌, ◌<◌, Bool, true, eqb, List, [], ◌∷◌, length, get_or, map, sym, ap, ◌∙◌, subst, arith}
use Rattle.std.proofs.lemmas.Bool.{and_parts, eqb-true}
use Rattle.std.proofs.lemmas.List.{length-map}
use Rattle.lists.specs.Lists.{In, Once, here}
use Rattle.lists.proofs.Members.{kept_in}
use Rattle.lists.proofs.Onces.{once_kept, once_le}
use Rattle.clausal.specs.Clausal.{Clausal, Rising, diamonded, row_at, takes_name}
use Rattle.clausal.specs.Counting.{places_of}
use Rattle.clausal.specs.Places.{lit, name_of}
use Rattle.clausal.specs.States.{State, rule_at}
use Rattle.clausal.specs.declared.modal_clauses.ModalClause.{ModalClause}
use Rattle.clausal.specs.declared.names.Name.TheVariants.{Free as free, Place as place}
use Rattle.clausal.specs.declared.places.Place.{Place}
use Rattle.clausal.specs.declared.shapes.Shape.{Shape}
use Rattle.clausal.proofs.Counted.{counted_once, counted_reached}
use Rattle.clausal.proofs.Forms.{modal_in}
use Rattle.clausal.proofs.Modals.{diamonds_orderly}
use Rattle.clausal.proofs.Reading.{place_at}
use Rattle.samples.specs.Laws.{diamond_places, is_diamond_at}
use Rattle.samples.proofs.Sources.{source, shape_named}
use Rattle.lists.proofs.Maps.{mapped_in, in_mapped, once_mapped}

place_one : (sh : Shape) → eqb (length (diamonded sh)) 1 ≡ true → (c : ℕ) × In c (diamonded sh)
place_one sh h = go (diamonded sh) (eqb-true (length (diamonded sh)) 1 h)
  where
    go : (cs : List ℕ) → length cs ≡ 1 → (c : ℕ) × In c cs
    go [] e = absurd (omega arith)
    go (c ∷ cs) e = (c, here)

abbrev at_level : ℕ → Bool → ℕ → Place
at_level k s l = record { row = k; plus = s; level = l }

same_place : (l r k j : ℕ) (s t : Bool) → place r k s ≡ place r j t → at_level k s l ≡ at_level j t l
same_place l r k j s t e =
    let a : k ≡ j = cc in
    let b : s ≡ t = cc in
    λ i. record { row = a i; plus = b i; level = l }

module _ (st : State) (cl : Clausal st) (l : ℕ) where
  module _ (r : ℕ) (h : r < length st.rules) where
    -- the clause that a place gives, and the slot of its name
    pub record Gives (p : Place) : Type 0 where
      pub level : p.level ≡ l
      pub wanted : takes_name (row_at st r p.row) ≡ true
      pub clause : ModalClause
      pub slot : ℕ
      pub given : In clause (st.diamonds l)
      pub name : clause.name ≡ name_of st l r p.row p.plus
      pub numbered : name_of st l r p.row p.plus ≡ 16 + slot
      pub is : get_or (st.names l) slot free ≡ place r p.row p.plus

    pub gives : (p : Place) → In p (diamond_places (rule_at st r) l) → Gives p
    gives p i =
        let (j, t) = kept_in (is_diamond_at (rule_at st r) l) (places_of (rule_at st r)) i in
        let (a, b) = and_parts _ _ t in
        let e = eqb-true p.level l a in
        let (c, u) = place_one _ b in
        let x = counted_reached (rule_at st r) j in
        let w = shape_named _ p.plus (λ z. elim (subst (λ sh. In c (diamonded sh)) z u) [ ]) in
        let (k, m, n, q) = place_at st l r p.row p.plus (subst (λ z. In (place r p.row p.plus) (st.names z)) e (cl.naming.named r p h x w)) in
        record {
          level = e;
          wanted = w;
          clause = record { name = 16 + k; literal = lit st r (suc l) p.plus c };
          slot = k;
          given = subst (In _) (sym (cl.diamonds l)) (modal_in diamonded st l k r p.row p.plus c m q u);
          name = sym n;
          numbered = n;
          is = q;
        }

    one_slot : (p q : Place) → In p (diamond_places (rule_at st r) l) → In q (diamond_places (rule_at st r) l) → name_of st l r p.row p.plus ≡ name_of st l r q.row q.plus → p ≡ q
    one_slot p q i j e =
        let a = gives p i in
        let b = gives q j in
        let n : a.slot ≡ b.slot = omega (arith, a.numbered, b.numbered, e) in
        let s = same_place l r p.row q.row p.plus q.plus (sym a.is ∙ (ap (λ k. get_or (st.names l) k free) n ∙ b.is)) in
        ap (at_level p.row p.plus) a.level ∙ (s ∙ ap (at_level q.row q.plus) (sym b.level))

    names_once : Once (map (λ p. name_of st l r p.row p.plus) (diamond_places (rule_at st r) l))
    names_once = once_mapped _ _ (once_kept _ _ (counted_once (rule_at st r))) one_slot

  rising_once : (ds : List ModalClause) → Rising ds → Once (map (λ (d : ModalClause). d.name) ds)
  rising_once [] r = tt
  rising_once (d ∷ ds) r = ((λ i. (let (e, j, q) = mapped_in _ ds i in let a = r.0 e j in absurd (omega arith))), rising_once ds r.1)

  -- where one rule is held, each of its places gives one clause
  module _ (single : length st.rules ≡ 1) where
    abbrev named_by : Place → ℕ
    named_by p = name_of st l 0 p.row p.plus

    abbrev name : ModalClause → ℕ
    name d = d.name

    pub from_single : (d : ModalClause) → In d (st.diamonds l) → (p : Place) × In p (diamond_places (rule_at st 0) l) × (named_by p ≡ d.name)
    from_single d i =
        let f = source st cl l d i in
        let h = f.held in
        let z : f.rule ≡ 0 = omega arith in
        (f.at, subst (λ r. In f.at (diamond_places (rule_at st r) l)) z f.listed, subst (λ r. name_of st l r f.at.row f.at.plus ≡ d.name) z f.named)

    names_placed : (n : ℕ) → In n (map name (st.diamonds l)) → In n (map named_by (diamond_places (rule_at st 0) l))
    names_placed n i =
        let (d, j, e) = mapped_in name (st.diamonds l) i in
        let (p, k, q) = from_single d j in
        subst (λ m. In m (map named_by (diamond_places (rule_at st 0) l))) (q ∙ e) (in_mapped named_by k)

    places_named : (n : ℕ) → In n (map named_by (diamond_places (rule_at st 0) l)) → In n (map name (st.diamonds l))
    places_named n i =
        let (p, j, e) = mapped_in named_by (diamond_places (rule_at st 0) l) i in
        let g = gives 0 (omega arith) p j in
        subst (λ m. In m (map name (st.diamonds l))) (g.name ∙ e) (in_mapped name g.given)

    pub as_many : length (st.diamonds l) ≡ length (diamond_places (rule_at st 0) l)
    as_many =
        let up = once_le (map name (st.diamonds l)) _ (rising_once (st.diamonds l) (subst Rising (sym (cl.diamonds l)) (diamonds_orderly st cl.naming l).rising)) names_placed in
        let down = once_le (map named_by (diamond_places (rule_at st 0) l)) _ (names_once 0 (omega arith)) places_named in
        let a = length-map (st.diamonds l) name in
        let b = length-map (diamond_places (rule_at st 0) l) named_by in
        omega arith
