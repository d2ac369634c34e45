-- Membership in a set of atoms, by the digits of the number that writes it.
use Rattle.std.proofs.Common.{◌≡◌, ℕ, zero, suc, ◌-◌, ◌*◌, ◌/◌, ◌%◌, ◌^◌, ◌<◌, ◌≤◌, Bool, true, false, cond, not, ◌&&◌, ◌||◌, eqb, ltb, sym, refl, ap, ◌∙◌, div-one, arith, lit<, pow_pos}
use native.Mathlib.Nat.{div-div-eq-div-mul, pow-succ', zero-div}
use lib.Bits.{bit_and, bit_or, and_shr, or_shr, and_step, or_step, and_mask}
use Rattle.std.proofs.lemmas.Nat.{one_shl, pow_below}
use Rattle.std.proofs.lemmas.Bool.{lt-ltb, eqb-true, eq-eqb}
use Rattle.std.proofs.lemmas.Bool.Decides.{nat_tests}
use Rattle.atoms.specs.Bits.{bit}

-- the lowest digit, and the others
pub has_zero : (n : ℕ) → bit n 0 ≡ eqb (n % 2) 1
unfolding bit
has_zero n = ap (λ (m : ℕ). eqb (m % 2) 1) (div-one n)

pub has_suc : (n i : ℕ) → bit n (suc i) ≡ bit (n / 2) i
unfolding bit
has_suc n i = ap (λ (m : ℕ). eqb (m % 2) 1) (ap (λ (p : ℕ). n / p) (pow-succ' 2 i) ∙ sym (div-div-eq-div-mul n 2 (2 ^ i)))

-- no atom is in the empty set
pub has_none : (i : ℕ) → bit 0 i ≡ false
unfolding bit
has_none i = ap (λ (m : ℕ). eqb (m % 2) 1) (zero-div (2 ^ i))

odd_or : (a b : ℕ) → eqb (bit_or a b % 2) 1 ≡ eqb (a % 2) 1 || eqb (b % 2) 1
odd_or a b = let s = or_step a b in grind (arith, nat_tests)

odd_and : (a b : ℕ) → eqb (bit_and a b % 2) 1 ≡ eqb (a % 2) 1 && eqb (b % 2) 1
odd_and a b = let s = and_step a b in grind (arith, nat_tests)

pub has_or : (a b i : ℕ) → bit (bit_or a b) i ≡ bit a i || bit b i
unfolding bit
has_or a b i = ap (λ (m : ℕ). eqb (m % 2) 1) (or_shr a b i) ∙ odd_or (a / 2 ^ i) (b / 2 ^ i)

pub has_and : (a b i : ℕ) → bit (bit_and a b) i ≡ bit a i && bit b i
unfolding bit
has_and a b i = ap (λ (m : ℕ). eqb (m % 2) 1) (and_shr a b i) ∙ odd_and (a / 2 ^ i) (b / 2 ^ i)

-- what the code tests
pub has_test : (n i : ℕ) → eqb (bit_and (n / 2 ^ i) 1) 1 ≡ bit n i
unfolding bit
has_test n i = ap (λ (m : ℕ). eqb m 1) (and_mask (n / 2 ^ i) 1)

-- the set of one atom
pub has_one : (a i : ℕ) → bit (2 ^ a) i ≡ eqb a i
has_one zero zero = has_zero 1
has_one zero (suc i) = has_suc 1 i ∙ has_none i ∙ grind (arith, nat_tests)
has_one (suc a) zero = has_zero (2 ^ suc a) ∙ (let p = pow-succ' 2 a in grind (arith, nat_tests))
has_one (suc a) (suc i) =
    let half : 2 ^ suc a / 2 ≡ 2 ^ a = let p = pow-succ' 2 a in omega arith in
    has_suc (2 ^ suc a) i ∙ ap (λ (m : ℕ). bit m i) half ∙ has_one a i ∙ grind (arith, nat_tests)

-- the atoms below k that a set lacks
pub has_others : (k n i : ℕ) → n < 2 ^ k → bit (2 ^ k - 1 - n) i ≡ ltb i k && not (bit n i)
has_others zero n i h = ap (λ (m : ℕ). bit m i) (let e : 2 ^ 0 - 1 - n ≡ 0 = omega arith in e) ∙ has_none i ∙ grind (arith, nat_tests)
has_others (suc k) n zero h =
    let p = pow-succ' 2 k in
    let a = has_zero (2 ^ suc k - 1 - n) in
    let b = has_zero n in
    grind (arith, nat_tests)
has_others (suc k) n (suc i) h =
    let p = pow-succ' 2 k in
    let half : (2 ^ suc k - 1 - n) / 2 ≡ 2 ^ k - 1 - n / 2 = omega arith in
    let low : n / 2 < 2 ^ k = omega arith in
    has_suc (2 ^ suc k - 1 - n) i ∙ ap (λ (m : ℕ). bit m i) half ∙ has_others k (n / 2) i low
    ∙ (let e = has_suc n i in grind (arith, nat_tests))

-- a set below 2 ^ k has no atom from k on
pub has_high : (k n i : ℕ) → n < 2 ^ k → k ≤ i → bit n i ≡ false
has_high zero n i h l = ap (λ (m : ℕ). bit m i) (let e : n ≡ 0 = omega arith in e) ∙ has_none i
has_high (suc k) n zero h l = absurd (let z : ⊥ = omega arith in z)
has_high (suc k) n (suc i) h l =
    let p = pow-succ' 2 k in
    has_suc n i ∙ has_high k (n / 2) i (omega arith) (omega arith)

-- sets with the same members are the same
pub has_same : (k m n : ℕ) → m < 2 ^ k → n < 2 ^ k → ((i : ℕ) → bit m i ≡ bit n i) → m ≡ n
has_same zero m n hm hn e = omega arith
has_same (suc k) m n hm hn e =
    let p = pow-succ' 2 k in
    let halves : m / 2 ≡ n / 2 = has_same k (m / 2) (n / 2) (omega arith) (omega arith) (λ i. sym (has_suc m i) ∙ e (suc i) ∙ has_suc n i) in
    let low : eqb (m % 2) 1 ≡ eqb (n % 2) 1 = sym (has_zero m) ∙ e 0 ∙ has_zero n in
    grind (arith, nat_tests)

-- a set with no members is empty
pub has_nothing : (k n : ℕ) → n < 2 ^ k → ((i : ℕ) → bit n i ≡ false) → n ≡ 0
has_nothing k n h e = has_same k n 0 h (pow_pos k) (λ i. e i ∙ sym (has_none i))

-- what comparing a set with that of no atom says
pub empty_test : (n : ℕ) (b : Bool) → n < 2 ^ 64 → b ≡ eqb n 0 → b ≡ true → (i : ℕ) → bit n i ≡ false
empty_test n b l t e i = ap (λ (m : ℕ). bit m i) (eqb-true n 0 (sym t ∙ e)) ∙ has_none i

pub empty_tested : (n : ℕ) (b : Bool) → n < 2 ^ 64 → b ≡ eqb n 0 → ((i : ℕ) → bit n i ≡ false) → b ≡ true
empty_tested n b l t e = t ∙ eq-eqb n 0 (has_nothing 64 n l e)

-- a set with an atom more, by membership
pub has_insert : (n a i : ℕ) → bit (cond (ltb a 64) (bit_or n (2 ^ a)) n) i ≡ bit n i || (eqb a i && ltb i 64)
has_insert n a i = at (ltb a 64) refl
  where
    at : (b : Bool) → ltb a 64 ≡ b → bit (cond b (bit_or n (2 ^ a)) n) i ≡ bit n i || (eqb a i && ltb i 64)
    at true e = grind (arith, nat_tests, has_or n (2 ^ a) i, has_one a i)
    at false e = grind (arith, nat_tests)

pub has_with : (n a i : ℕ) → a < 64 → bit (cond (ltb a 64) (bit_or n (2 ^ a)) n) i ≡ bit n i || eqb a i
has_with n a i l = rw (lt-ltb a 64 l) (has_or n (2 ^ a) i ∙ ap (λ (b : Bool). bit n i || b) (has_one a i))

-- what the code computes for an atom less
trim : (b : Bool) (i : ℕ) (d : Bool) → (64 ≤ i → b ≡ false) → b && (ltb i 64 && not d) ≡ b && not d
trim false i d h = refl
trim true i d h = grind (arith, nat_tests, h)

pub has_remove : (n a i : ℕ) → n < 2 ^ 64 → a < 64 → bit (bit_and n (2 ^ 64 - 1 - (1 * 2 ^ a) % 2 ^ 64)) i ≡ bit n i && not (eqb a i)
has_remove n a i l h =
    let e : bit (bit_and n (2 ^ 64 - 1 - (1 * 2 ^ a) % 2 ^ 64)) i ≡ bit (bit_and n (2 ^ 64 - 1 - 2 ^ a)) i =
    ap (λ (m : ℕ). bit (bit_and n (2 ^ 64 - 1 - m)) i) (one_shl a 64 h) in
    let f = has_and n (2 ^ 64 - 1 - 2 ^ a) i in
    let o = has_others 64 (2 ^ a) i (pow_below a 64 h) in
    let one = has_one a i in
    let high : 64 ≤ i → bit n i ≡ false = has_high 64 n i l in
    e ∙ f ∙ ap (λ (b : Bool). bit n i && b) (o ∙ ap (λ (b : Bool). ltb i 64 && not b) one) ∙ trim (bit n i) i (eqb a i) high

-- an atom of a set less another
pub has_minus : (a b i : ℕ) → a < 2 ^ 64 → b < 2 ^ 64 → bit (bit_and a (2 ^ 64 - 1 - b)) i ≡ bit a i && not (bit b i)
has_minus a b i la lb =
    has_and a (2 ^ 64 - 1 - b) i ∙ ap (λ (x : Bool). bit a i && x) (has_others 64 b i lb) ∙ trim (bit a i) i (bit b i) (has_high 64 a i la)

-- the letters
pub has_letters : (i : ℕ) → bit 32767 i ≡ ltb i 15
has_letters i = grind (arith, nat_tests, has_others 15 0 i (lit< tt), has_none i)
