-- Which signed letters a list has, and what one more does to it.
use Rattle.std.proofs.Common.{◌≡◌, Bool, true, false, ◌&&◌, ◌↔◌, eqb, List, ◌∷◌, sym, refl, ap, ◌∙◌, subst}
use Rattle.std.proofs.lemmas.Bool.{and_parts, and_from, eq-eqb, eqb-true, true≢false}
use Rattle.std.specs.Cmp.{booleans_Decides}
use mathlib.Core.Bool.{beq}
use Rattle.lists.specs.Lists.{In, here, there}
use Rattle.tableau.specs.declared.claims.SignedLetter.{SignedLetter}

abbrev same : SignedLetter → SignedLetter → Bool
same k l = eqb k.letter l.letter && beq k.plus l.plus

same_is : (k l : SignedLetter) → same k l ≡ true → k ≡ l
same_is k l h =
    let (a, b) = and_parts (eqb k.letter l.letter) (beq k.plus l.plus) h in
    let e = eqb-true k.letter l.letter a in
    let p = (booleans_Decides k.plus l.plus).0 b in λ i. record { letter = e i; plus = p i }

is_same : (k : SignedLetter) → same k k ≡ true
is_same k = and_from _ _ (eq-eqb k.letter k.letter refl) ((booleans_Decides k.plus k.plus).1 refl)

pub in_first : (k x : SignedLetter) (ls : List SignedLetter) (b : Bool) → b ≡ same k x → b ≡ true → (b ≡ true) ↔ In x (k ∷ ls)
in_first k x ls b e h = ((λ _. subst (λ z. In x (z ∷ ls)) (sym (same_is k x (sym e ∙ h))) here), (λ _. h))

pub in_rest : (k x : SignedLetter) (ls : List SignedLetter) (b r : Bool) → b ≡ same k x → b ≡ false → (r ≡ true) ↔ In x ls → (r ≡ true) ↔ In x (k ∷ ls)
in_rest k x ls b r e h f = ((λ q. there (f.0 q)), (λ i. back k refl i))
  where
    back : (z : SignedLetter) → k ≡ z → In x (z ∷ ls) → r ≡ true
    back z q here = absurd (true≢false (sym (is_same x) ∙ (ap (λ y. same y x) (sym q) ∙ (sym e ∙ h))))
    back z q (there i) = f.1 i
