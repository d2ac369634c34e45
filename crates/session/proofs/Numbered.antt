-- The rules that a question asks, number by number.
use Rattle.std.proofs.Common.{◌≡◌, ℕ, ◌+◌, ◌*◌, ◌%◌, ◌^◌, ◌<◌, Bool, true, false, cond, ◌||◌, eqb, inl, inr, sym, ap, ◌∙◌, subst, arith, bit_or}
use Rattle.std.proofs.lemmas.Nat.{one_shl}
use Rattle.std.proofs.lemmas.Bool.{both_ways, cases_lt, eq-eqb, eqb-true, or_cases, or_left, or_right}
use Rattle.atoms.specs.Bits.{bit}
use Rattle.atoms.specs.Sets.{has}
use Rattle.atoms.specs.declared.assumptions.Assumptions.{Assumptions}
use Rattle.atoms.specs.declared.clauses.Literal.{Literal}
use Rattle.atoms.proofs.Members.{has_none, has_or, has_one}
use Rattle.naming.specs.declared.table.Table.{Table}
use Rattle.session.specs.Assumed.{handle_in, AskedHeld, Assumes, KeepsIn}

pub assumes_none : (t : Table) (q : ℕ) → Assumes t q 0 (record { within = record { bits = 0 }; without = record { bits = 0 } })
assumes_none t q = record { held = λ k h. absurd (omega arith); each = λ k h. absurd (omega arith); only = λ x e. absurd (nothing x x.holds e) }
  where
    nothing : (x : Literal) (b : Bool) → cond b (bit 0 x.atom) (bit 0 x.atom) ≡ true → ⊥
    nothing x true e = both_ways (bit 0 x.atom) (has_none x.atom) e
    nothing x false e = both_ways (bit 0 x.atom) (has_none x.atom) e

pub keeps_none : (t : Table) (q : ℕ) (core : Assumptions) → KeepsIn t q core 0 0
keeps_none t q core = record { part = λ k e. absurd (both_ways (bit 0 k) (has_none k) e); whole = λ k h. absurd (omega arith) }

pub keeps_passed : (t : Table) (q n kept : ℕ) (core : Assumptions) → KeepsIn t q core n kept → (AskedHeld t q n → false ≡ has core.within (handle_in t n)) → KeepsIn t q core (n + 1) kept
keeps_passed t q n kept core s f = record {
  part = λ k e. (let (h, b) = s.part k e in (omega arith, b));
  whole = λ k h d e. elim (cases_lt k n) [
    | inl c ↦ s.whole k c d e
    | inr c ↦ (let z : k ≡ n = omega arith in absurd (both_ways _ (sym (f (subst (AskedHeld t q) z d))) (subst (λ i. has core.within (handle_in t i) ≡ true) z e)))
  ];
}

bit_more : (n a i : ℕ) → a < 16 → bit (bit_or n ((1 * 2 ^ a) % 2 ^ 16)) i ≡ bit n i || eqb a i
bit_more n a i h = ap (λ (m : ℕ). bit (bit_or n m) i) (one_shl a 16 h) ∙ has_or n (2 ^ a) i ∙ ap (λ (b : Bool). bit n i || b) (has_one a i)

pub keeps_more : (t : Table) (q n kept : ℕ) (core : Assumptions) → KeepsIn t q core n kept → n < 16 → bit q n ≡ true → KeepsIn t q core (n + 1) (bit_or kept ((1 * 2 ^ n) % 2 ^ 16))
keeps_more t q n kept core s l b = record {
  part = λ k e. elim (or_cases (bit kept k) (eqb n k) (sym (bit_more kept n k l) ∙ e)) [
    | inl c ↦ (let (h, d) = s.part k c in (omega arith, d))
    | inr c ↦ (let z = eqb-true n k c in (omega arith, subst (λ i. bit q i ≡ true) z b))
  ];
  whole = λ k h d e. bit_more kept n k l ∙ elim (cases_lt k n) [
    | inl c ↦ or_left _ _ (s.whole k c d e)
    | inr c ↦ or_right (bit kept k) _ (eq-eqb n k (omega arith))
  ];
}
