-- Membership in a set of atoms, and tests and counts over the numbers below a bound.
use Rattle.std.specs.Prelude.{◌≡◌, ℕ, zero, suc, ◌+◌, ◌^◌, ◌<◌, Bool, true, false, cond, not, ◌&&◌, ◌||◌, bit_or, nat_le, nat_lt}
use Rattle.atoms.specs.Bits.{bit}
use Rattle.atoms.specs.declared.sets.AtomSet.{AtomSet}

-- is the atom in the set
abbrev pub has : AtomSet → ℕ → Bool
has s a = bit s.bits a

-- the set with one atom more, if the number is an atom
abbrev pub with_atom : AtomSet → ℕ → AtomSet
with_atom s a = record { bits = cond (nat_lt a 64) (bit_or s.bits (2 ^ a)) s.bits }

-- does the test hold of a number below the bound
unfoldable pub some_below : ℕ → (ℕ → Bool) → Bool
some_below zero p = false
some_below (suc n) p = p n || some_below n p

-- how many numbers below the bound pass the test
unfoldable pub count_below : ℕ → (ℕ → Bool) → ℕ
count_below zero p = 0
count_below (suc n) p = cond (p n) 1 0 + count_below n p

-- is every atom of the set a letter, 0 to 14
abbrev pub has_only_letters : AtomSet → Bool
has_only_letters s = not (some_below 64 (λ a. nat_le 15 a && has s a))

-- the atom is in the set, and no lower one is
pub record LowestIn (s : AtomSet) (a : ℕ) : Type 0 where
  pub small : a < 64
  pub member : has s a ≡ true
  pub first : (i : ℕ) → i < a → has s i ≡ false

-- the set of the numbers below the bound that pass the test
unfoldable pub set_below : ℕ → (ℕ → Bool) → ℕ
set_below zero p = 0
set_below (suc n) p = bit_or (cond (p n) (2 ^ n) 0) (set_below n p)

-- the letters of a valuation
abbrev pub letters_of : (ℕ → Bool) → AtomSet
letters_of v = record { bits = set_below 15 v }
