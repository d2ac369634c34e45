-- The length of a list is the number of its items, and what a push appends.
use Rattle.std.proofs.Common.{◌≡◌, ℕ, ◌<◌, cond, ltb, List, [], ◌∷◌, ◌++◌, length, ◌∙◌, arith, true, Result, Ok, Err, is_ok}
use Rattle.fixed_list.specs.declared.ArrayVec.{ArrayVec}
use Rattle.fixed_list.specs.Items.{items_of}
use Rattle.std.proofs.lemmas.List.{length-take-le}
use Rattle.std.proofs.lemmas.Bool.{cond-true, lt-ltb}
use Rattle.std.proofs.lemmas.Bool.Decides.{nat_tests}

pub length_items : {T : Type 0} {N : ℕ} (v : ArrayVec T N) → length (items_of v) ≡ v.len
length_items v = length-take-le v.len v.items (omega arith)

-- a push where there is room
pub pushed : {T : Type 0} (xs ys : List T) (x : T) (n : ℕ) → length xs < n → ys ≡ cond (ltb (length xs) n) (xs ++ x ∷ []) xs → ys ≡ xs ++ x ∷ []
pushed xs ys x n h e = e ∙ cond-true _ _ _ (lt-ltb _ _ h)

-- and it is not refused
pub accepted : {X E : Type 0} (r : Result X E) (x : X) (e : E) (k n : ℕ) → r ≡ cond (ltb k n) (Ok x) (Err e) → k < n → is_ok r ≡ true
accepted r x e k n q l = grind (arith, nat_tests)
