-- Lists that are gathered from the names of a level, name after name.
use Rattle.std.proofs.Common.{◌≡◌, ℕ, suc, ◌+◌, ◌<◌, ◌≤◌, List, [], ◌∷◌, ◌++◌, map, length, get_or, drop, sym, refl, ap, ◌∙◌, ap₂, append_assoc, add-zero, arith, length-append}
use Rattle.std.proofs.lemmas.List.{append-nil, drop_all, drop_more, map-append}
use Rattle.clausal.specs.Clausal.{gather}
use Rattle.clausal.specs.declared.names.Name.{Name}
use Rattle.clausal.specs.declared.names.Name.TheVariants.{Free as free}
use Rattle.lists.specs.Lists.{In, here, there}

pub gather_append : {A : Type 0} (f : ℕ → Name → List A) (n : ℕ) (xs ys : List Name) → gather f n (xs ++ ys) ≡ gather f n xs ++ gather f (n + length xs) ys
gather_append f n [] ys = ap (λ m. gather f m ys) (sym (add-zero n))
gather_append f n (x ∷ xs) ys = let e : suc n + length xs ≡ n + suc (length xs) = omega arith in ap (λ t. f n x ++ t) (gather_append f (suc n) xs ys ∙ ap (λ m. gather f (suc n) xs ++ gather f m ys) e) ∙ sym (append_assoc (f n x) (gather f (suc n) xs) (gather f (n + suc (length xs)) ys))

pub gather_nothing : {A : Type 0} (n : ℕ) (xs : List Name) → gather {A = A} (λ m x. []) n xs ≡ []
gather_nothing n [] = refl
gather_nothing n (x ∷ xs) = gather_nothing (suc n) xs

pub gather_in_same : {A : Type 0} (f g : ℕ → Name → List A) (n : ℕ) (xs : List Name) → ((m : ℕ) (x : Name) → In x xs → f m x ≡ g m x) → gather f n xs ≡ gather g n xs
gather_in_same f g n [] h = refl
gather_in_same f g n (x ∷ xs) h = ap₂ ◌++◌ (h n x here) (gather_in_same f g (suc n) xs (λ m y i. h m y (there i)))

pub map_gather : {A B : Type 0} (f : A → B) (g : ℕ → Name → List A) (n : ℕ) (xs : List Name) → gather (λ m x. map f (g m x)) n xs ≡ map f (gather g n xs)
map_gather f g n [] = refl
map_gather f g n (x ∷ xs) = ap (λ t. map f (g n x) ++ t) (map_gather f g (suc n) xs) ∙ sym (map-append f (g n x) (gather g (suc n) xs))

pub gather_few : {A : Type 0} (f : ℕ → Name → List A) → ((n : ℕ) (x : Name) → length (f n x) ≤ 1) → (n : ℕ) (xs : List Name) → length (gather f n xs) ≤ length xs
gather_few f h n [] = omega arith
gather_few f h n (x ∷ xs) = let a = gather_few f h (suc n) xs in let b = h n x in let c = length-append (f n x) (gather f (suc n) xs) in omega arith

-- name after name, from slot m on: what is written with what is still to be given is the whole
module _ {A : Type 0} (f : ℕ → Name → List A) (m : ℕ) (xs : List Name) (i : ℕ) (o w : List A) (inv : o ++ gather f (16 + (m + i)) (drop i xs) ≡ w) where
  pub whole_step : (x : Name) (o' : List A) → i < length xs → get_or xs i free ≡ x → o' ≡ o ++ f (16 + (m + i)) x → o' ++ gather f (16 + (m + (i + 1))) (drop (i + 1) xs) ≡ w
  whole_step x o' h e q =
      let n : suc (16 + (m + i)) ≡ 16 + (m + (i + 1)) = omega arith in
      let d : gather f (16 + (m + i)) (drop i xs) ≡ f (16 + (m + i)) x ++ gather f (16 + (m + (i + 1))) (drop (i + 1) xs) = ap (gather f (16 + (m + i))) (drop_more xs i free h) ∙ ap₂ (λ y k. f (16 + (m + i)) y ++ gather f k (drop (i + 1) xs)) e n in
      ap (λ t. t ++ gather f (16 + (m + (i + 1))) (drop (i + 1) xs)) q ∙ (append_assoc o (f (16 + (m + i)) x) (gather f (16 + (m + (i + 1))) (drop (i + 1) xs)) ∙ (ap (λ t. o ++ t) (sym d) ∙ inv))

  pub whole_end : length xs ≤ i → o ≡ w
  whole_end h = sym (append-nil o) ∙ (ap (λ t. o ++ gather f (16 + (m + i)) t) (sym (drop_all i xs h)) ∙ inv)
