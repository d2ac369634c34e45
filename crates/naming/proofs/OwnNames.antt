-- The names that one rule takes at a level: what they stand for, that each is there once, how many there are.
use Rattle.lists.proofs.Maps.{in_mapped, mapped_in, once_mapped}
use Rattle.std.proofs.lemmas.Grind.{common_steps}
use Rattle.std.proofs.lemmas.Bool.Decides.{nat_tests}
use Rattle.std.proofs.Common.{◌≡◌, ℕ, ◌+◌, ◌≤◌, Bool, true, false, cond, eqb, ◌⊎◌, List, [], ◌∷◌, length, get_or, sym, refl, ◌∙◌, subst, ap₂, inl, inr, arith, length-append, map}
use Rattle.std.proofs.lemmas.List.{length-map}
use Rattle.std.proofs.lemmas.Bool.{eq-eqb, eqb-true}
use Rattle.clausal.proofs.Rows.{Lawful}
use Rattle.clausal.specs.Clausal.{takes_name}
use Rattle.clausal.specs.Counting.{count_of_names}
use Rattle.clausal.specs.Places.{Reached}
use Rattle.clausal.specs.declared.names.Name.{Name}
use Rattle.clausal.specs.declared.names.Name.TheVariants.{Handle as handle, Place as place}
use Rattle.clausal.specs.declared.places.Place.{Place}
use Rattle.naming.proofs.NamedPlaces.{named_at, names_counted, named_place_at, named_places_once, same_number}
use Rattle.naming.proofs.Places.{place_back, within}
use Rattle.naming.specs.Names.{names_for, place_name}
use Rattle.naming.specs.Numbers.{place_numbered}
use Rattle.naming.specs.Order.{named_places}
use Rattle.lists.proofs.Members.{no_members, in_either, in_left, in_right}
use Rattle.lists.proofs.Onces.{once_append}
use Rattle.lists.specs.Lists.{In, Once, here, there}
use Rattle.modal.specs.declared.row.Row.{Row}
use Rattle.modal.specs.declared.row.Row.TheVariants.{False}

module _ (r : ℕ) where
  same_place_name : (m n : ℕ) → (place_numbered m).level ≡ (place_numbered n).level → place_name r m ≡ place_name r n → m ≡ n
  same_place_name m n l e =
      let a : (place_numbered m).row ≡ (place_numbered n).row = cc in
      let b : (place_numbered m).plus ≡ (place_numbered n).plus = cc in
      same_number m n (λ i. record { row = a i; plus = b i; level = l i })

  module _ (rows : List Row) (l : ℕ) where
    -- the name stands for a reached place of the rule that takes a name, or for the rule at level 0
    abbrev pub OwnName : Name → Type 0
    OwnName x = ((k : ℕ) × (s : Bool) × Reached rows (record { row = k; plus = s; level = l }) × (takes_name (get_or rows k False) ≡ true) × (x ≡ place r k s)) ⊎ ((l ≡ 0) × (x ≡ handle r))

    handle_from : (b : Bool) → eqb l 0 ≡ b → {x : Name} → In x (cond b (handle r ∷ []) []) → (l ≡ 0) × (x ≡ handle r)
    handle_from true e here = (eqb-true l 0 e, refl)
    handle_from true e (there i) = elim i [ ]
    handle_from false e i = elim i [ ]

    pub names_own : {x : Name} → In x (names_for r rows l) → OwnName x
    names_own i = elim (in_either (map (place_name r) (named_places rows l 128)) _ i) [
      | inl j ↦
          let (n, m, e) = mapped_in (place_name r) (named_places rows l 128) j in
          let (q, y, t) = named_place_at rows l m in
          inl ((place_numbered n).row, (place_numbered n).plus, subst (λ z. Reached rows (record { row = (place_numbered n).row; plus = (place_numbered n).plus; level = z })) q y, t, sym e)
      | inr j ↦ inr (handle_from (eqb l 0) refl j)
    ]

    handle_once : (b : Bool) → Once (cond b (handle r ∷ []) [])
    handle_once true = ((λ i. elim i [ ]), tt)
    handle_once false = tt

    places_once : Once (map (place_name r) (named_places rows l 128))
    places_once = once_mapped (place_name r) _ (named_places_once rows l 128) (λ m n i j e. same_place_name m n ((named_place_at rows l i).0 ∙ sym (named_place_at rows l j).0) e)

    pub names_once : Once (names_for r rows l)
    names_once = once_append _ _ places_once (handle_once (eqb l 0))
        (λ x i j. let (n, _, e) = mapped_in (place_name r) (named_places rows l 128) i in let (_, f) = handle_from (eqb l 0) refl j in let z : ◌≡◌ {A = ℕ} 0 1 = cc in omega arith)

    pub place_in : Lawful rows → (k : ℕ) (s : Bool) → Reached rows (record { row = k; plus = s; level = l }) → takes_name (get_or rows k False) ≡ true → In (place r k s) (names_for r rows l)
    place_in ok k s x t =
        let b = place_back (record { row = k; plus = s; level = l }) (within rows ok x).row in
        in_left _ (subst (λ (p : Place). In (place r p.row p.plus) (map (place_name r) (named_places rows l 128))) b (in_mapped (place_name r) (named_at rows ok l _ x t refl)))

    pub handle_in : l ≡ 0 → In (handle r) (names_for r rows l)
    handle_in e = in_right (map (place_name r) (named_places rows l 128)) (subst (λ b. In (handle r) (cond b (handle r ∷ []) [])) (sym (eq-eqb l 0 e)) here)

module _ (r : ℕ) (rows : List Row) (ok : Lawful rows) (l : ℕ) where
  pub names_beyond : 8 ≤ l → names_for r rows l ≡ []
  names_beyond h = no_members _ (λ x i. go x (names_own r rows l i))
    where
      go : (x : Name) → OwnName r rows l x → ⊥
      go x (inl (k, s, y, t, e)) = let w = (within rows ok y).level in omega arith
      go x (inr (z, e)) = omega arith

  handle_length : (b : Bool) → length (cond b (handle r ∷ []) []) ≡ cond b 1 0
  handle_length v1 = grind (arith, common_steps, nat_tests)

  pub names_length : length (names_for r rows l) ≡ count_of_names rows l
  names_length = length-append (map (place_name r) (named_places rows l 128)) _ ∙ (ap₂ (λ a b. a + b) (length-map (named_places rows l 128) (place_name r)) (handle_length (eqb l 0)) ∙ names_counted rows ok l _ refl)
