-- The members of a list of consecutive numbers.
use Rattle.std.proofs.lemmas.Bool.{cases_eq}
use Rattle.std.proofs.Common.{ℕ, zero, suc, ◌+◌, ◌<◌, ◌≤◌, inl, inr, arith}
use Rattle.std.specs.List.{range_with_len}
use Rattle.lists.specs.Lists.{In, Once, here, there}

pub range_in : (a n x : ℕ) → In x (range_with_len a n) → (a ≤ x) × (x < a + n)
range_in a zero x i = elim i [ ]
range_in a (suc n) x here = (omega arith, omega arith)
range_in a (suc n) x (there i) = let (p, q) = range_in (a + 1) n x i in (omega arith, omega arith)

pub in_range : (a n x : ℕ) → a ≤ x → x < a + n → In x (range_with_len a n)
in_range a zero x h k = absurd (omega arith)
in_range a (suc n) x h k = elim (cases_eq a x) [ inl e ↦ rw e here | inr e ↦ there (in_range (a + 1) n x (omega arith) (omega arith)) ]

pub once_range : (a n : ℕ) → Once (range_with_len a n)
once_range a zero = tt
once_range a (suc n) = ((λ i. let (p, q) = range_in (a + 1) n a i in omega arith), once_range (a + 1) n)
