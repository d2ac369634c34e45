-- The first element of a list that passes a test.
use Rattle.std.proofs.Common.{◌≡◌, ℕ, suc, ◌<◌, Bool, true, false, cond, ◌||◌, List, [], ◌∷◌, length, get_or, sym, refl, ap, suc-le-suc, arith}
use Rattle.std.proofs.lemmas.Bool.{true≢false}
use Rattle.lists.specs.Lists.{some, first_at}

-- the first that passes the test passes it
pub first_passes : {A : Type 0} (p : A → Bool) (d : A) (xs : List A) → some p xs ≡ true → (p (get_or xs (first_at p xs) d) ≡ true) × (first_at p xs < length xs)
first_passes p d [] h = absurd (true≢false (sym h))
first_passes p d (x ∷ xs) h = go (p x) refl h (first_passes p d xs)
  where
    go : (b : Bool) → p x ≡ b → (b || some p xs) ≡ true → (some p xs ≡ true → (p (get_or xs (first_at p xs) d) ≡ true) × (first_at p xs < length xs)) → (p (get_or (x ∷ xs) (cond b 0 (suc (first_at p xs))) d) ≡ true) × (cond b 0 (suc (first_at p xs)) < suc (length xs))
    go true e k rec = (e, omega arith)
    go false e k rec = ((rec k).0, suc-le-suc (rec k).1)

pub first_no : {A : Type 0} (p : A → Bool) (d : A) (xs : List A) → ((j : ℕ) → j < length xs → p (get_or xs j d) ≡ false) → first_at p xs ≡ length xs
first_no p d [] f = refl
first_no p d (x ∷ xs) f = rw (f 0 (omega arith)) (ap suc (first_no p d xs (λ j l. f (suc j) (omega arith))))
