-- The members of a list that is mapped.
use Rattle.std.proofs.Common.{◌≡◌, List, [], ◌∷◌, map, refl, subst}
use Rattle.lists.specs.Lists.{In, Once, here, there}

module _ {A B : Type 0} (f : A → B) where
  pub in_mapped : {x : A} {xs : List A} → In x xs → In (f x) (map f xs)
  in_mapped here = here
  in_mapped (there i) = there (in_mapped i)

  pub mapped_in : (xs : List A) {y : B} → In y (map f xs) → (x : A) × In x xs × (f x ≡ y)
  mapped_in [] i = elim i [ ]
  mapped_in (x ∷ xs) here = (x, here, refl)
  mapped_in (x ∷ xs) (there i) = let (z, j, e) = mapped_in xs i in (z, there j, e)

  -- elements that give different things give each once
  pub once_mapped : (xs : List A) → Once xs → ((x z : A) → In x xs → In z xs → f x ≡ f z → x ≡ z) → Once (map f xs)
  once_mapped [] o h = tt
  once_mapped (x ∷ xs) o h = (λ i. (let (z, j, e) = mapped_in xs i in o.0 (subst (λ a. In a xs) (h z x (there j) here e) j)), once_mapped xs o.1 (λ a b i j. h a b (there i) (there j)))
