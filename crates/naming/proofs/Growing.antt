-- A level's names growing by those of a rule, number after number.
use Rattle.std.proofs.Common.{◌≡◌, ℕ, ◌+◌, ◌*◌, ◌<◌, Bool, false, cond, eqb, ltb, Result, Ok, Err, Bor, List, [], ◌∷◌, ◌++◌, length, filter, get_or, sym, ap, ◌∙◌, subst, ap₂, append_assoc, arith, length-append, map}
use Rattle.std.proofs.lemmas.Bool.{eq-eqb}
use Rattle.std.proofs.lemmas.Bool.Decides.{nat_tests}
use Rattle.std.proofs.lemmas.List.{append-nil, map-append, length-map}
use Rattle.std.proofs.lemmas.Iterator.{YieldsList, YieldsList-from_range}
use Rattle.std.proofs.lemmas.Iterator.Consumers.{YieldsList-from_filter}
use Rattle.std.proofs.iter.Yields.{nat_range_steps}
use Rattle.std.specs.Fn.{CalledAt}
use Rattle.std.specs.Iterator.Adapters.{filter_source, filter_callee, filter_steps}
use Rattle.std.specs.List.{range_with_len}
use Rattle.std.specs.declared.iter.Filter.{Filter}
use Rattle.std.specs.declared.ops.Range.{Range}
use denote.Param.Members.{Mut}
use Rattle.modal.specs.declared.row.Row.{Row}
use Rattle.clausal.specs.declared.names.Name.{Name}
use Rattle.clausal.specs.declared.names.Name.TheVariants.{Handle as handle}
use Rattle.naming.specs.Names.{place_name, names_for}
use Rattle.naming.specs.Order.{named_places, is_named}
use Rattle.naming.proofs.NamedPlaces.{named_place_at}
use Rattle.lists.proofs.Members.{get_or_in}
use Rattle.lists.specs.Lists.{In}

-- a push that was not refused
pub pushed_on : {X : Type 0} (xs ys : List X) (x : X) (n : ℕ) (r : Result (Unit {0}) X) (y : Unit {0}) → r ≡ cond (ltb (length xs) n) (Ok tt) (Err x) → r ≡ Ok y → ys ≡ cond (ltb (length xs) n) (xs ++ x ∷ []) xs → ys ≡ xs ++ x ∷ []
pushed_on xs ys x n r y e o p = grind (arith, nat_tests)

-- a level's names with those of the numbers that were gone over
module _ (r : ℕ) (o a : List Name) (ns : List ℕ) (e : a ≡ o ++ map (place_name r) ns) where
  pub grown_more : (b : List Name) (n : ℕ) (x : Name) → b ≡ a ++ x ∷ [] → x ≡ place_name r n → b ≡ o ++ map (place_name r) (ns ++ n ∷ [])
  grown_more b n x p m =
      let q : map (place_name r) (ns ++ n ∷ []) ≡ map (place_name r) ns ++ x ∷ [] = map-append (place_name r) ns (n ∷ []) ∙ ap (λ z. map (place_name r) ns ++ z ∷ []) (sym m) in
      p ∙ ap (λ z. z ++ x ∷ []) e ∙ append_assoc o (map (place_name r) ns) (x ∷ []) ∙ ap (λ z. o ++ z) (sym q)

  pub grown_count : length a ≡ length o + length ns
  grown_count = ap length e ∙ length-append o _ ∙ ap (λ n. length o + n) (length-map ns (place_name r))

  pub grown_handle : (rows : List Row) (l : ℕ) (b : List Name) → ns ≡ named_places rows l 128 → l ≡ 0 → b ≡ a ++ handle r ∷ [] → b ≡ o ++ names_for r rows l
  grown_handle rows l b z q p =
      let w : map (place_name r) ns ++ handle r ∷ [] ≡ names_for r rows l = ap₂ (λ n c. map (place_name r) n ++ cond c (handle r ∷ []) []) z (sym (eq-eqb l 0 q)) in
      p ∙ ap (λ z. z ++ handle r ∷ []) e ∙ append_assoc o (map (place_name r) ns) (handle r ∷ []) ∙ ap (λ z. o ++ z) w

  pub grown_places : (rows : List Row) (l : ℕ) → ns ≡ named_places rows l 128 → eqb l 0 ≡ false → a ≡ o ++ names_for r rows l
  grown_places rows l z q = e ∙ ap (λ xs. o ++ xs) (sym (append-nil (map (place_name r) ns)) ∙ ap₂ (λ n c. map (place_name r) n ++ cond c (handle r ∷ []) []) z (sym q))

-- what comes from a level's numbers through a test for named places
pub named_places_come : {F : Type 0} {s : Filter (Range ℕ) F} {f : F} (g : Mut F (Bor ℕ × Unit {0}) Bool) (rows : List Row) (l first : ℕ) → first ≡ l * 128 → filter_source s ≡ record { start = first; end = first + 128 } → filter_callee s ≡ f
    → ((x : ℕ) (b : Bool) (q : F) → CalledAt g f x b q → (q ≡ f) × (b ≡ is_named rows x)) → YieldsList (filter_steps nat_range_steps g) (λ x. x) s (named_places rows l 128)
unfolding named_places
named_places_come {s = s} g rows l first e source callee k =
    subst (λ n. YieldsList (filter_steps nat_range_steps g) (λ x. x) s (filter (is_named rows) (range_with_len n 128))) e
    (YieldsList-from_filter g (is_named rows) (YieldsList-from_range first (first + 128) 128 source (omega arith)) callee k)

-- a named place has a number
pub named_place_small : (rows : List Row) (l i n : ℕ) → l < 8 → i < length (named_places rows l 128) → n ≡ get_or (named_places rows l 128) i n → n < 1024
named_place_small rows l i n h k e = omega (arith, (named_place_at rows l (subst (λ m. In m (named_places rows l 128)) (sym e) (get_or_in (named_places rows l 128) i n k))).0)
