-- How many places are marked, and that a stack of marked places has room for one that is not marked.
use Rattle.std.proofs.lemmas.List.Sums.{count_by-le-length, sum_by-set}
use Rattle.std.proofs.Common.{◌≡◌, ℕ, ◌+◌, ◌<◌, ◌≤◌, Bool, true, false, cond, ltb, List, [], ◌∷◌, ◌++◌, length, get_or, set, ◌∙◌, arith, ap}
use Rattle.std.proofs.lemmas.List.{length-set}
use Rattle.std.proofs.lemmas.Bool.{lt-ltb, cond-true}
use Rattle.naming.specs.Marks.{count_of_marks}

pub marks_le : (m : List Bool) → count_of_marks m ≤ length m
marks_le = count_by-le-length (λ b. b)

pub marks_more : (m : List Bool) (n : ℕ) → n < length m → get_or m n false ≡ false → count_of_marks (set m n true) ≡ count_of_marks m + 1
marks_more m n h e =
    let k : count_of_marks (set m n true) + cond (get_or m n false) 1 0 ≡ count_of_marks m + 1 = sum_by-set (λ (b : Bool). cond b 1 0) m n true false h in
    let z : cond {A = ℕ} (get_or m n false) 1 0 ≡ 0 = ap (λ (b : Bool). cond b 1 0) e in
    omega (arith, k, z)

pub marks_lt : (m : List Bool) (n : ℕ) → n < length m → get_or m n false ≡ false → count_of_marks m < length m
marks_lt m n h e = let k = marks_more m n h e in let a = marks_le (set m n true) in let b = length-set m n true in omega arith

-- a stack with an entry for some of the marked numbers has room for one that is not marked
pub todo_pushed : (m : List Bool) (n : ℕ) (s t slots : List ℕ) → n < length m → get_or m n false ≡ false → length slots ≡ length m → length s ≤ count_of_marks m → t ≡ cond (ltb (length s) (length slots)) (s ++ n ∷ []) s → t ≡ s ++ n ∷ []
todo_pushed m n s t slots h f e l p = let k = marks_lt m n h f in p ∙ cond-true _ _ _ (lt-ltb (length s) (length slots) (omega arith))
