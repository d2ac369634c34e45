-- Tests of every element and of some: denied, on a mapped list, and alike on all members.
use Rattle.std.proofs.Common.{◌≡◌, Bool, true, false, not, ◌&&◌, ◌||◌, List, [], ◌∷◌, map, refl, ap, ap₂, ◌∙◌}
use Rattle.lists.specs.Lists.{every, some, In, here, there}

pub not_and : (a b : Bool) → not (a && b) ≡ (not a || not b)
not_and true b = refl
not_and false b = refl

pub not_or : (a b : Bool) → not (a || b) ≡ (not a && not b)
not_or true b = refl
not_or false b = refl

module _ {A : Type 0} where
  pub not_every : (p : A → Bool) (xs : List A) → not (every p xs) ≡ some (λ x. not (p x)) xs
  not_every p [] = refl
  not_every p (x ∷ xs) = not_and (p x) (every p xs) ∙ ap (λ b. not (p x) || b) (not_every p xs)

  pub not_some : (p : A → Bool) (xs : List A) → not (some p xs) ≡ every (λ x. not (p x)) xs
  not_some p [] = refl
  not_some p (x ∷ xs) = not_or (p x) (some p xs) ∙ ap (λ b. not (p x) && b) (not_some p xs)

  pub every_same : (p q : A → Bool) (xs : List A) → ((x : A) → In x xs → p x ≡ q x) → every p xs ≡ every q xs
  every_same p q [] h = refl
  every_same p q (x ∷ xs) h = ap₂ (λ a b. a && b) (h x here) (every_same p q xs (λ y i. h y (there i)))

  pub some_same : (p q : A → Bool) (xs : List A) → ((x : A) → In x xs → p x ≡ q x) → some p xs ≡ some q xs
  some_same p q [] h = refl
  some_same p q (x ∷ xs) h = ap₂ (λ a b. a || b) (h x here) (some_same p q xs (λ y i. h y (there i)))

-- for the test of every element this is std's `list_all-map`
pub some_map : {A B : Type 0} (f : A → B) (p : B → Bool) (xs : List A) → some p (map f xs) ≡ some (λ x. p (f x)) xs
some_map f p [] = refl
some_map f p (x ∷ xs) = ap (λ b. p (f x) || b) (some_map f p xs)
