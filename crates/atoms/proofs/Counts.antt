-- How many numbers below a bound pass a test, and that the ones of a word count its atoms.
use Rattle.std.proofs.Common.{◌≡◌, ℕ, zero, suc, ◌+◌, ◌/◌, ◌%◌, ◌^◌, ◌<◌, Bool, true, false, cond, not, ◌&&◌, eqb, sym, refl, ap, arith}
use native.Mathlib.Nat.{pow-succ'}
use lib.Count.{ones, ones_step}
use Rattle.std.proofs.lemmas.Bool.{both_ways}
use Rattle.std.proofs.lemmas.Bool.Decides.{nat_tests}
use Rattle.atoms.specs.Bits.{bit}
use Rattle.atoms.specs.Sets.{count_below}
use Rattle.atoms.proofs.Members.{has_zero, has_suc}

-- what one test adds to a count
abbrev one : Bool → ℕ
one b = cond b 1 0

pub count_same : (n : ℕ) (p q : ℕ → Bool) → ((i : ℕ) → i < n → p i ≡ q i) → count_below n p ≡ count_below n q
unfolding count_below
count_same zero p q h = refl
count_same (suc n) p q h =
    let e : one (p n) ≡ one (q n) = ap (λ (b : Bool). one b) (h n (omega arith)) in
    let f = count_same n p q (λ i l. h i (omega arith)) in
    omega arith

-- one number less passes
pub count_less : (n : ℕ) (p q : ℕ → Bool) (a : ℕ) → ((i : ℕ) → p i ≡ q i && not (eqb a i)) → a < n → q a ≡ true → count_below n p + 1 ≡ count_below n q
unfolding count_below
count_less zero p q a e l h = absurd (let z : ⊥ = omega arith in z)
count_less (suc n) p q a e l h = at (eqb a n) refl (λ less. count_less n p q a e less h)
  where
    own : (x y : Bool) (a : ℕ) → x ≡ y && not (eqb a a) → one x ≡ 0
    own x y a e = grind (arith, nat_tests)

    apart : (x y : Bool) (a i : ℕ) → x ≡ y && not (eqb a i) → (a ≡ i → ⊥) → x ≡ y
    apart x y a i e f = grind (arith, nat_tests, f)

    at : (b : Bool) → eqb a n ≡ b → (a < n → count_below n p + 1 ≡ count_below n q) → one (p n) + count_below n p + 1 ≡ one (q n) + count_below n q
    at true z below =
        let is : a ≡ n = grind (arith, nat_tests) in
        let here : one (p a) ≡ 0 = own (p a) (q a) a (e a) in
        let there : one (q a) ≡ 1 = ap (λ (b : Bool). one b) h in
        let x : one (p n) ≡ one (p a) = ap (λ (k : ℕ). one (p k)) (sym is) in
        let y : one (q n) ≡ one (q a) = ap (λ (k : ℕ). one (q k)) (sym is) in
        let rest : count_below n p ≡ count_below n q = count_same n p q (λ i m. apart (p i) (q i) a i (e i) (λ f. omega arith)) in
        omega arith
    at false z below =
        let ne : a ≡ n → ⊥ = λ f. (let w : eqb a n ≡ true = grind (arith, nat_tests) in both_ways _ z w) in
        let less : a < n = grind (arith, nat_tests) in
        let same : one (p n) ≡ one (q n) = ap (λ (b : Bool). one b) (apart (p n) (q n) a n (e n) ne) in
        let rest = below less in
        omega arith

-- the count by the lowest number and the others
count_shift : (n : ℕ) (p : ℕ → Bool) → count_below (suc n) p ≡ one (p 0) + count_below n (λ i. p (suc i))
unfolding count_below
count_shift zero p = refl
count_shift (suc n) p = let h = count_shift n p in omega arith

count_zero : (n : ℕ) → n ≡ 0 → ones n ≡ count_below 0 (bit n)
unfolding count_below ones
count_zero n e = ap ones e

-- the ones of a number are its members
pub count_ones : (k n : ℕ) → n < 2 ^ k → ones n ≡ count_below k (bit n)
count_ones zero n h = count_zero n (let e : n ≡ 0 = omega arith in e)
count_ones (suc k) n h =
    let p = pow-succ' 2 k in
    let low : cond (bit n 0) 1 0 ≡ n % 2 = digit (n % 2) (bit n 0) (omega arith) (has_zero n) in
    let rest : ones (n / 2) ≡ count_below k (bit (n / 2)) = count_ones k (n / 2) (omega arith) in
    let same : count_below k (bit (n / 2)) ≡ count_below k (λ i. bit n (suc i)) = count_same k (bit (n / 2)) (λ i. bit n (suc i)) (λ i _. sym (has_suc n i)) in
    let s = ones_step n in
    let t = count_shift k (bit n) in
    omega arith
  where
    digit : (d : ℕ) (b : Bool) → d < 2 → b ≡ eqb d 1 → one b ≡ d
    digit d b l e = grind (arith, nat_tests)
