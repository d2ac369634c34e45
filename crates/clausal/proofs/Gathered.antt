-- What the names of a level give.
-- what a table gives comes from one of its names, and each gives its part
use Rattle.std.proofs.Common.{◌≡◌, ℕ, zero, suc, ◌+◌, ◌<◌, List, [], ◌∷◌, ◌++◌, length, get_or, sym, refl, ◌∙◌, ap₂, inl, inr, suc-le-suc, add-zero, add-suc, suc-add, arith}
use Rattle.clausal.specs.Clausal.{gather}
use Rattle.clausal.specs.declared.names.Name.{Name}
use Rattle.clausal.specs.declared.names.Name.TheVariants.{Free as free}
use Rattle.lists.proofs.Members.{in_either, in_left, in_right}
use Rattle.lists.specs.Lists.{In}

module _ {A : Type 0} (f : ℕ → Name → List A) where
  pub gathered : (n : ℕ) (xs : List Name) {x : A} → In x (gather f n xs) → (i : ℕ) × (i < length xs) × In x (f (n + i) (get_or xs i free))
  gathered n [] i = elim i [ ]
  gathered n (y ∷ ys) i = elim (in_either (f n y) (gather f (suc n) ys) i) [ inl j ↦ (0, omega arith, rw add-zero j) | inr j ↦ (let (k, l, q) = gathered (suc n) ys j in (suc k, suc-le-suc l, rw (add-suc n k) (rw (suc-add n k) at q))) ]

  pub gather_in : (n : ℕ) (xs : List Name) (i : ℕ) {x : A} → i < length xs → In x (f (n + i) (get_or xs i free)) → In x (gather f n xs)
  gather_in n [] i l h = absurd (omega arith)
  gather_in n (y ∷ ys) zero l h = in_left (gather f (suc n) ys) (rw add-zero at h)
  gather_in n (y ∷ ys) (suc i) l h = in_right (f n y) (gather_in (suc n) ys i (omega arith) (rw (suc-add n i) (rw (add-suc n i) at h)))

-- tables that agree in every slot give the same, whatever their lengths
pub gather_same : {A : Type 0} (f g : ℕ → Name → List A) → ((n : ℕ) → f n free ≡ []) → ((n : ℕ) → g n free ≡ []) → (n : ℕ) (xs ys : List Name) → ((m i : ℕ) → f m (get_or xs i free) ≡ g m (get_or ys i free)) → gather f n xs ≡ gather g n ys
gather_same f g ff gf n [] [] h = refl
gather_same f g ff gf n [] (y ∷ ys) h = ap₂ ◌++◌ (sym (ff n) ∙ h n 0) (gather_same f g ff gf (suc n) [] ys (λ m i. h m (suc i)))
gather_same f g ff gf n (x ∷ xs) [] h = ap₂ ◌++◌ (h n 0 ∙ gf n) (gather_same f g ff gf (suc n) xs [] (λ m i. h m (suc i)))
gather_same f g ff gf n (x ∷ xs) (y ∷ ys) h = ap₂ ◌++◌ (h n 0) (gather_same f g ff gf (suc n) xs ys (λ m i. h m (suc i)))
