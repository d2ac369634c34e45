-- Words on lists: tests of every element and of some, membership, lists without repetition, lists that pair off.
use Rattle.std.specs.Prelude.{ℕ, suc, Bool, cond, List, [], ◌∷◌, ◌++◌}
use Rattle.std.specs.List.{list_all, list_any}

abbrev pub every : {A : Type 0} → (A → Bool) → List A → Bool
every = list_all

abbrev pub some : {A : Type 0} → (A → Bool) → List A → Bool
some = list_any

-- where the first element stands that passes the test, or the length
abbrev pub first_at : {A : Type 0} → (A → Bool) → List A → ℕ
first_at p [] = 0
first_at p (x ∷ xs) = cond (p x) 0 (suc (first_at p xs))

pub data In {A : Type 0} (x : A) : List A → Type 0 where
  here : {xs : List A} → In x (x ∷ xs)
  there : {y : A} {xs : List A} → In x xs → In x (y ∷ xs)

-- no element stands twice
abbrev pub Once : {A : Type 0} → List A → Type 0
Once [] = Unit {0}
Once (x ∷ xs) = (In x xs → ⊥) × Once xs

-- the second list pairs off with the first, in whatever order
pub data Matches {A B : Type 0} (R : A → B → Type 0) : List A → List B → Type 0 where
  none : Matches R [] []
  more : {a : A} {rest : List A} (b : B) (front back : List B) → R a b → Matches R rest (front ++ back) → Matches R (a ∷ rest) (front ++ b ∷ back)
