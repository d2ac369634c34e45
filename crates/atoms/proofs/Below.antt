-- Tests over the numbers below a bound, and the sets that they make.
use Rattle.std.proofs.Common.{◌≡◌, ℕ, zero, suc, ◌^◌, ◌<◌, ◌≤◌, Bool, true, false, cond, not, ◌&&◌, ◌||◌, eqb, ltb, sym, refl, ap, ◌∙◌, ap₂, inl, inr, bit_or, arith, pow_pos}
use native.Mathlib.Nat.{pow-succ'}
use lib.Bits.{or_lt}
use Rattle.std.proofs.lemmas.Bool.{or_from, or_cases, or_left, or_right, false_from_ne_true, both_ways}
use Rattle.std.proofs.lemmas.Bool.Decides.{nat_tests}
use Rattle.atoms.specs.Bits.{bit}
use Rattle.atoms.specs.Sets.{some_below, set_below}
use Rattle.atoms.proofs.Members.{has_none, has_or, has_one, has_same, has_letters}

pub some_none : (n : ℕ) (p : ℕ → Bool) → ((i : ℕ) → i < n → p i ≡ false) → some_below n p ≡ false
unfolding some_below
some_none zero p h = refl
some_none (suc n) p h = or_from (p n) (some_below n p) (h n (omega arith)) (some_none n p (λ i l. h i (omega arith)))

pub some_here : (n : ℕ) (p : ℕ → Bool) (i : ℕ) → i < n → p i ≡ true → some_below n p ≡ true
unfolding some_below
some_here zero p i l e = absurd (let z : ⊥ = omega arith in z)
some_here (suc n) p i l e = at (eqb i n) refl (λ h. some_here n p i h e)
  where
    at : (b : Bool) → eqb i n ≡ b → (i < n → some_below n p ≡ true) → (p n || some_below n p) ≡ true
    at true q f = or_left (p n) (some_below n p) (ap p (let z : n ≡ i = grind (arith, nat_tests) in z) ∙ e)
    at false q f = or_right (p n) (some_below n p) (f (let z : i < n = grind (arith, nat_tests) in z))

-- and the other way round
pub some_where : (n : ℕ) (p : ℕ → Bool) → some_below n p ≡ true → (i : ℕ) × (i < n) × (p i ≡ true)
unfolding some_below
some_where zero p e = absurd (both_ways _ refl e)
some_where (suc n) p e = elim (or_cases (p n) (some_below n p) e) [ inl h ↦ (n, omega arith, h) | inr h ↦ (let (i, l, q) = some_where n p h in (i, omega arith, q)) ]

-- where the test holds of none, it holds of no number below the bound
pub none_at : (n : ℕ) (p : ℕ → Bool) → some_below n p ≡ false → (i : ℕ) → i < n → p i ≡ false
none_at n p e i l = false_from_ne_true (p i) (λ h. both_ways _ e (some_here n p i l h))

pub some_same : (n : ℕ) (p q : ℕ → Bool) → ((i : ℕ) → i < n → p i ≡ q i) → some_below n p ≡ some_below n q
unfolding some_below
some_same zero p q h = refl
some_same (suc n) p q h = ap₂ (λ (a b : Bool). a || b) (h n (omega arith)) (some_same n p q (λ i l. h i (omega arith)))

-- what a test of emptiness answers for a set with the members t
pub empty_none : (n : ℕ) (t : ℕ → Bool) (r : Bool) → ((i : ℕ) → n ≤ i → t i ≡ false) → (r ≡ true → (i : ℕ) → t i ≡ false) → (((i : ℕ) → t i ≡ false) → r ≡ true)
    → r ≡ not (some_below n t)
empty_none n t true high all some = sym (ap not (some_none n t (λ i _. all refl i)))
empty_none n t false high all some = at (some_below n t) refl
  where
    low : (b : Bool) (i : ℕ) → (n ≤ i → b ≡ false) → (i < n → b ≡ false) → b ≡ false
    low true i h f = grind (arith, nat_tests, h, f)
    low false i h f = refl

    at : (b : Bool) → some_below n t ≡ b → false ≡ not (some_below n t)
    at true q = sym (ap not q)
    at false q = absurd (both_ways _ refl (some (λ i. low (t i) i (high i) (none_at n t q i))))

-- membership in a set that is made from a test
pub set_has : (n : ℕ) (p : ℕ → Bool) (i : ℕ) → bit (set_below n p) i ≡ ltb i n && p i
unfolding set_below
set_has zero p i = has_none i ∙ grind (arith, nat_tests)
set_has (suc n) p i = at (p n) refl (set_has n p i)
  where
    at : (b : Bool) → p n ≡ b → bit (set_below n p) i ≡ ltb i n && p i → bit (bit_or (cond b (2 ^ n) 0) (set_below n p)) i ≡ ltb i (suc n) && p i
    at true e h = has_or (2 ^ n) (set_below n p) i ∙ grind (arith, nat_tests, has_one n i, h, e)
    at false e h = has_or 0 (set_below n p) i ∙ grind (arith, nat_tests, has_none i, h, e)

pub set_small : (n : ℕ) (p : ℕ → Bool) → set_below n p < 2 ^ n
unfolding set_below
set_small zero p = omega arith
set_small (suc n) p = let h = set_small n p in let q = pow-succ' 2 n in or_lt (suc n) (cond (p n) (2 ^ n) 0) (set_below n p) (one_small (p n)) (omega arith)
  where
    one_small : (b : Bool) → cond b (2 ^ n) 0 < 2 ^ suc n
    one_small true = let q = pow-succ' 2 n in let r = pow_pos n in omega arith
    one_small false = let q = pow-succ' 2 n in let r = pow_pos n in omega arith

-- the letters of a set
pub letters_are : (n m : ℕ) → m < 2 ^ 64 → ((i : ℕ) → bit m i ≡ bit n i && bit 32767 i) → m ≡ set_below 15 (bit n)
letters_are n m h e =
    has_same 64 m (set_below 15 (bit n)) h (let s = set_small 15 (bit n) in omega arith) (λ i. grind (arith, nat_tests, e i, has_letters i, set_has 15 (bit n) i))
