-- Clauses made literal by literal.
use Rattle.std.proofs.Common.{◌≡◌, ℕ, ◌<◌, Bool, true, false, cond, ◌&&◌, ◌||◌, eqb, List, [], ◌∷◌, sym, refl, ◌∙◌, subst, inl, inr}
use mathlib.Core.Bool.{false≢true}
use Rattle.std.proofs.lemmas.Bool.{or_cases, or_left, or_right, eq-eqb, eqb-true, and_parts, and_from}
use Rattle.lists.specs.Lists.{In, here, there}
use Rattle.std.proofs.Math.Bool.{or-false}
use Rattle.atoms.specs.Bits.{bit}
use Rattle.atoms.specs.Clauses.{with_literal, clause_from}
use Rattle.atoms.specs.declared.clauses.Clause.{Clause}
use Rattle.atoms.specs.declared.clauses.Literal.{Literal}
use Rattle.atoms.proofs.Members.{has_none, has_with}
use Rattle.clausal.specs.Clausal.{has_literal, ClauseOf}
use Rattle.clausal.specs.Places.{sign_eq}
use Rattle.clausal.proofs.Reading.{same_sign, sign_same}

pub none_of : ClauseOf [] (clause_from [])
none_of = record { small = λ x i. elim i [ ]; within = λ x h e. absurd (go x.holds x.atom e); whole = λ x i. elim i [ ] }
  where
    go : (b : Bool) (a : ℕ) → cond b (bit 0 a) (bit 0 a) ≡ true → ⊥
    go true a e = false≢true (sym (has_none a) ∙ e)
    go false a e = false≢true (sym (has_none a) ∙ e)

holds_with : (c : Clause) (a : ℕ) (s : Bool) (b : ℕ) (t : Bool) → a < 64 → has_literal (with_literal c (record { atom = a; holds = s })) (record { atom = b; holds = t }) ≡ (has_literal c (record { atom = b; holds = t }) || (sign_eq s t && eqb a b))
holds_with c a true b true l = has_with c.plain.bits a b l
holds_with c a false b false l = has_with c.negated.bits a b l
holds_with c a true b false l = sym (or-false (bit c.negated.bits b))
holds_with c a false b true l = sym (or-false (bit c.plain.bits b))

pub one_more : {xs : List Literal} {c : Clause} (x : Literal) → x.atom < 64 → ClauseOf xs c → ClauseOf (x ∷ xs) (with_literal c x)
one_more {xs} {c} x h k = record {
  small = λ y i. small y i;
  within = λ y l e. elim (or_cases _ _ (sym (holds_with c x.atom x.holds y.atom y.holds h) ∙ e)) [ inl q ↦ there (k.within y l q) | inr q ↦ subst (λ z. In z (x ∷ xs)) (same y q) here ];
  whole = λ y i. holds_with c x.atom x.holds y.atom y.holds h ∙ whole y i;
}
  where
    small : (y : Literal) → In y (x ∷ xs) → y.atom < 64
    small y here = h
    small y (there i) = k.small y i

    same : (y : Literal) → (sign_eq x.holds y.holds && eqb x.atom y.atom) ≡ true → x ≡ y
    same y e = let (a, b) = and_parts _ _ e in let p = same_sign x.holds y.holds a in let q = eqb-true x.atom y.atom b in λ i. record { atom = q i; holds = p i }

    whole : (y : Literal) → In y (x ∷ xs) → (has_literal c y || (sign_eq x.holds y.holds && eqb x.atom y.atom)) ≡ true
    whole y here = or_right _ _ (and_from _ _ (sign_same x.holds) (eq-eqb x.atom x.atom refl))
    whole y (there i) = or_left _ _ (k.whole y i)

-- so a list of literals makes a clause
pub from_list : (xs : List Literal) → ((x : Literal) → In x xs → x.atom < 64) → ClauseOf xs (clause_from xs)
from_list [] h = none_of
from_list (x ∷ xs) h = one_more x (h x here) (from_list xs (λ y i. h y (there i)))
