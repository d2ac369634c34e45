-- Membership in lists, and what tests over lists say of members.
use Rattle.std.proofs.Common.{◌≡◌, ℕ, zero, suc, ◌<◌, Bool, true, false, cond, not, ◌⊎◌, List, [], ◌∷◌, ◌++◌, length, get_or, filter, sym, refl, ap, ◌∙◌, inl, inr, arith, length-append}
use Rattle.std.proofs.lemmas.Bool.{and_parts, and_from, or_cases, or_left, or_right, true≢false}
use Rattle.lists.specs.Lists.{every, some, In, here, there, Matches, none, more}

-- induction from all the smaller numbers
pub smaller : (P : ℕ → Type 0) → ((k : ℕ) → ((j : ℕ) → j < k → P j) → P k) → (k : ℕ) → P k
smaller P step k = go (suc k) k (omega arith)
  where
    go : (n j : ℕ) → j < n → P j
    go zero j h = absurd (omega arith)
    go (suc n) j h = step j (λ i l. go n i (omega arith))

module _ {A : Type 0} where
  pub every_in : (p : A → Bool) {x : A} {xs : List A} → In x xs → every p xs ≡ true → p x ≡ true
  every_in p {x} (here {xs = ys}) h = (and_parts (p x) (every p ys) h).0
  every_in p (there {y = y} {xs = ys} i) h = every_in p i (and_parts (p y) (every p ys) h).1

  pub every_from : (p : A → Bool) (xs : List A) → ((x : A) → In x xs → p x ≡ true) → every p xs ≡ true
  every_from p [] h = refl
  every_from p (y ∷ ys) h = and_from (p y) (every p ys) (h y here) (every_from p ys (λ x i. h x (there i)))

  pub every_append : (p : A → Bool) (xs ys : List A) → every p xs ≡ true → every p ys ≡ true → every p (xs ++ ys) ≡ true
  every_append p [] ys h k = k
  every_append p (x ∷ xs) ys h k = let (a, b) = and_parts (p x) (every p xs) h in and_from (p x) (every p (xs ++ ys)) a (every_append p xs ys b k)

  pub some_in : (p : A → Bool) (xs : List A) → some p xs ≡ true → (x : A) × In x xs × (p x ≡ true)
  some_in p [] h = absurd (true≢false (sym h))
  some_in p (y ∷ ys) h = elim (or_cases (p y) (some p ys) h) [ inl e ↦ (y, here, e) | inr e ↦ (let (x, i, q) = some_in p ys e in (x, there i, q)) ]

  pub some_from : (p : A → Bool) {x : A} {xs : List A} → In x xs → p x ≡ true → some p xs ≡ true
  some_from p {x} (here {xs = ys}) e = or_left (p x) (some p ys) e
  some_from p (there {y = y} {xs = ys} i) e = or_right (p y) (some p ys) (some_from p i e)

  pub kept_in : (p : A → Bool) (xs : List A) {x : A} → In x (filter p xs) → In x xs × (p x ≡ true)
  kept_in p [] i = elim i [ ]
  kept_in p (y ∷ ys) i = go (p y) refl (λ z. kept_in p ys) i
    where
      go : {x : A} (b : Bool) → p y ≡ b → ((z : A) → In z (filter p ys) → In z ys × (p z ≡ true)) → In x (cond b (y ∷ filter p ys) (filter p ys)) → In x (y ∷ ys) × (p x ≡ true)
      go true e rec here = (here, e)
      go {x} true e rec (there j) = (there (rec x j).0, (rec x j).1)
      go {x} false e rec j = (there (rec x j).0, (rec x j).1)

  pub in_kept : (p : A → Bool) {x : A} {xs : List A} → In x xs → p x ≡ true → In x (filter p xs)
  in_kept p here e = rw e here
  in_kept p {x} (there {y = y} {xs = ys} i) e = go (p y) (in_kept p i e)
    where
      go : (b : Bool) → In x (filter p ys) → In x (cond b (y ∷ filter p ys) (filter p ys))
      go true j = there j
      go false j = j

  pub in_left : {x : A} {xs : List A} (ys : List A) → In x xs → In x (xs ++ ys)
  in_left ys here = here
  in_left ys (there i) = there (in_left ys i)

  pub in_right : (xs : List A) {ys : List A} {x : A} → In x ys → In x (xs ++ ys)
  in_right [] i = i
  in_right (y ∷ xs) i = there (in_right xs i)

  pub in_either : (xs ys : List A) {x : A} → In x (xs ++ ys) → In x xs ⊎ In x ys
  in_either [] ys i = inr i
  in_either (y ∷ xs) ys here = inl here
  in_either (y ∷ xs) ys (there i) = elim (in_either xs ys i) [ inl j ↦ inl (there j) | inr j ↦ inr j ]

  -- an element put between two lists
  pub in_between : (xs ys : List A) (y : A) {x : A} → In x (xs ++ ys) → In x (xs ++ (y ∷ ys))
  in_between [] ys y i = there i
  in_between (z ∷ xs) ys y here = here
  in_between (z ∷ xs) ys y (there i) = there (in_between xs ys y i)

  pub in_around : (xs ys : List A) (y : A) {x : A} → In x (xs ++ (y ∷ ys)) → (y ≡ x) ⊎ In x (xs ++ ys)
  in_around [] ys y here = inl refl
  in_around [] ys y (there i) = inr i
  in_around (z ∷ xs) ys y here = inr here
  in_around (z ∷ xs) ys y (there i) = elim (in_around xs ys y i) [ inl e ↦ inl e | inr j ↦ inr (there j) ]

pub get_or_in : {A : Type 0} (xs : List A) (i : ℕ) (d : A) → i < length xs → In (get_or xs i d) xs
get_or_in [] i d h = absurd (omega arith)
get_or_in (x ∷ xs) zero d h = here
get_or_in (x ∷ xs) (suc i) d h = there (get_or_in xs i d (omega arith))

pub in_get_or : {A : Type 0} (d : A) {x : A} {xs : List A} → In x xs → (j : ℕ) × (j < length xs) × (get_or xs j d ≡ x)
in_get_or d here = (0, omega arith, refl)
in_get_or d (there i) = let (j, h, e) = in_get_or d i in (suc j, omega arith, e)

pub in_one : {A : Type 0} {x y : A} → In x (y ∷ []) → y ≡ x
in_one here = refl
in_one (there i) = elim i [ ]

-- what pairs off has a partner on the other side
module _ {A B : Type 0} (R : A → B → Type 0) where
  pub match_right : {xs : List A} {ys : List B} → Matches R xs ys → {x : A} → In x xs → (y : B) × In y ys × R x y
  match_right none i = elim i [ ]
  match_right (more b front back h m) here = (b, in_right front here, h)
  match_right (more b front back h m) (there i) = let (y, j, r) = match_right m i in (y, in_between front back b j, r)

  pub match_left : {xs : List A} {ys : List B} → Matches R xs ys → {y : B} → In y ys → (x : A) × In x xs × R x y
  match_left none i = elim i [ ]
  match_left (more {a = a} {rest = rest} b front back h m) {y} i = go (λ z. match_left m) (in_around front back b i)
    where
      go : ((z : B) → In z (front ++ back) → (x : A) × In x rest × R x z) → (b ≡ y) ⊎ In y (front ++ back) → (x : A) × In x (a ∷ rest) × R x y
      go rec (inl e) = (a, here, rw e at h)
      go rec (inr j) = let (x, k, r) = rec y j in (x, there k, r)

pub match_length : {A B : Type 0} (R : A → B → Type 0) {xs : List A} {ys : List B} → Matches R xs ys → length xs ≡ length ys
match_length R none = refl
match_length R (more b front back h m) = ap suc (match_length R m ∙ length-append front back) ∙ sym (length-append front (b ∷ back) ∙ omega arith)

-- if the test keeps nothing, its denial keeps all
pub kept_others : {A : Type 0} (p : A → Bool) (xs : List A) → filter p xs ≡ [] → filter (λ x. not (p x)) xs ≡ xs
kept_others p [] e = refl
kept_others p (x ∷ xs) e = go (p x) e (kept_others p xs)
  where
    go : (b : Bool) → cond b (x ∷ filter p xs) (filter p xs) ≡ [] → (filter p xs ≡ [] → filter (λ y. not (p y)) xs ≡ xs) → cond (not b) (x ∷ filter (λ y. not (p y)) xs) (filter (λ y. not (p y)) xs) ≡ x ∷ xs
    go true e rec = let z : ◌≡◌ {A = ℕ} 0 1 = cc in absurd (omega arith)
    go false e rec = ap (λ ys. x ∷ ys) (rec e)

pub kept_nothing : {A : Type 0} (p : A → Bool) (xs : List A) → ((x : A) → In x xs → p x ≡ false) → filter p xs ≡ []
kept_nothing p [] h = refl
kept_nothing p (x ∷ xs) h = rw (h x here) (kept_nothing p xs (λ y i. h y (there i)))

pub kept_all : {A : Type 0} (p : A → Bool) (xs : List A) → ((x : A) → In x xs → p x ≡ true) → filter p xs ≡ xs
kept_all p [] h = refl
kept_all p (x ∷ xs) h = rw (h x here) (ap (λ ys. x ∷ ys) (kept_all p xs (λ y i. h y (there i))))

pub kept_twice : {A : Type 0} (p : A → Bool) (xs : List A) → filter p (filter p xs) ≡ filter p xs
kept_twice p xs = kept_all p (filter p xs) (λ x i. (kept_in p xs i).1)

pub no_members : {A : Type 0} (xs : List A) → ((x : A) → In x xs → ⊥) → xs ≡ []
no_members [] h = refl
no_members (x ∷ xs) h = absurd (h x here)
