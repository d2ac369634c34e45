-- Lists without repetition.
use Rattle.std.proofs.Common.{◌≡◌, ◌≤◌, Bool, true, false, cond, List, [], ◌∷◌, ◌++◌, length, filter, sym, refl, ap, ◌∙◌, subst, inl, inr, arith, length-append}
use Rattle.lists.specs.Lists.{In, here, there, Once}
use Rattle.lists.proofs.Members.{in_either, kept_in}

-- a list without repetition whose elements are all in another is no longer
in_split : {A : Type 0} {x : A} {ys : List A} → In x ys → (front : List A) × (back : List A) × (ys ≡ front ++ (x ∷ back))
in_split (here {xs = ys}) = ([], ys, refl)
in_split (there {y = y} i) = let (f, b, e) = in_split i in (y ∷ f, b, ap (λ z. y ∷ z) e)

in_without : {A : Type 0} (front back : List A) (y : A) {x : A} → (y ≡ x → ⊥) → In x (front ++ (y ∷ back)) → In x (front ++ back)
in_without [] back y n here = absurd (n refl)
in_without [] back y n (there i) = i
in_without (z ∷ f) back y n here = here
in_without (z ∷ f) back y n (there i) = there (in_without f back y n i)

pub once_le : {A : Type 0} (xs ys : List A) → Once xs → ((x : A) → In x xs → In x ys) → length xs ≤ length ys
once_le [] ys o h = omega arith
once_le (x ∷ xs) ys o h =
    let (f, b, e) = in_split (h x here) in
    let r = once_le xs (f ++ b) o.1 (λ y i. in_without f b x (λ q. o.0 (subst (λ z. In z xs) (sym q) i)) (subst (In y) e (h y (there i)))) in
    let p = ap length e ∙ length-append f (x ∷ b) in
    let q = length-append f b in
    omega arith

pub once_append : {A : Type 0} (xs ys : List A) → Once xs → Once ys → ((x : A) → In x xs → In x ys → ⊥) → Once (xs ++ ys)
once_append [] ys o p d = p
once_append (x ∷ xs) ys o p d = ((λ i. elim (in_either xs ys i) [ inl j ↦ o.0 j | inr j ↦ d x here j ]), once_append xs ys o.1 p (λ z i. d z (there i)))

pub once_kept : {A : Type 0} (p : A → Bool) (xs : List A) → Once xs → Once (filter p xs)
once_kept p [] o = tt
once_kept p (x ∷ xs) o = go (p x) (once_kept p xs o.1)
  where
    go : (b : Bool) → Once (filter p xs) → Once (cond b (x ∷ filter p xs) (filter p xs))
    go true r = ((λ i. o.0 (kept_in p xs i).0), r)
    go false r = r
