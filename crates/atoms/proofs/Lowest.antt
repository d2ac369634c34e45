-- The lowest atom of a set is the number of zeros that its word ends with.
use Rattle.std.proofs.Common.{◌≡◌, ℕ, zero, suc, ◌/◌, ◌%◌, ◌^◌, ◌<◌, Bool, true, false, sym, refl, ◌∙◌, arith}
use native.Mathlib.Nat.{pow-succ'}
use lib.Count.{count_trailing_zeros, under}
use Rattle.std.proofs.lemmas.Bool.{true≢false}
use Rattle.std.proofs.lemmas.Bool.Decides.{nat_tests}
use Rattle.atoms.specs.Bits.{bit}
use Rattle.atoms.proofs.Members.{has_zero, has_suc, has_none}

-- a set that a test for no members finds not empty is not 0
pub not_zero : (n : ℕ) (b : Bool) → (((i : ℕ) → bit n i ≡ false) → b ≡ true) → b ≡ false → 0 < n
not_zero zero b h e = absurd (true≢false (sym (h has_none) ∙ e))
not_zero (suc n) b h e = omega arith

pub record Lowest (k n a : ℕ) : Type 0 where
  pub within : a < k
  pub member : bit n a ≡ true
  pub first : (i : ℕ) → i < a → bit n i ≡ false

low_at : (k n d : ℕ) → n % 2 ≡ d → 0 < n → n < 2 ^ suc k → ((m : ℕ) → 0 < m → m < 2 ^ k → Lowest k m (count_trailing_zeros k m)) → Lowest (suc k) n (under d (count_trailing_zeros k (n / 2)))
low_at k n zero e pos h below =
    let p = pow-succ' 2 k in
    let b = below (n / 2) (omega arith) (omega arith) in
    let w = b.within in
    let first : (i : ℕ) → i < suc (count_trailing_zeros k (n / 2)) → bit n i ≡ false = low_first n (count_trailing_zeros k (n / 2)) e b.first in
    record { within = omega arith; member = has_suc n (count_trailing_zeros k (n / 2)) ∙ b.member; first = first }
  where
    low_first : (n t : ℕ) → n % 2 ≡ 0 → ((i : ℕ) → i < t → bit (n / 2) i ≡ false) → (i : ℕ) → i < suc t → bit n i ≡ false
    low_first n t e f zero l = has_zero n ∙ grind (arith, nat_tests)
    low_first n t e f (suc i) l = has_suc n i ∙ f i (omega arith)
low_at k n (suc d) e pos h below =
    record { within = omega arith; member = has_zero n ∙ grind (arith, nat_tests); first = λ i l. absurd (let z : ⊥ = omega arith in z) }

pub has_lowest : (k n : ℕ) → 0 < n → n < 2 ^ k → Lowest k n (count_trailing_zeros k n)
unfolding count_trailing_zeros
has_lowest zero n pos h = absurd (let z : ⊥ = omega arith in z)
has_lowest (suc k) n pos h = low_at k n (n % 2) refl pos h (has_lowest k)
