-- The rows of a rule: the formula and the depth of each, what the rule says, and which lists of rows are a rule.
use Rattle.std.specs.Prelude.{ℕ, ◌+◌, ◌-◌, max, Bool, true, ◌&&◌, List, [], ◌∷◌, ◌++◌, length, nat_le, nat_lt, slice_index, slice_index_or}
use Rattle.modal.specs.Kripke.{Formula, falsum, verum, letter, neg, conj, disj, box, dia}
use Rattle.modal.specs.declared.row.Row.{Row}
use Rattle.modal.specs.declared.row.Row.TheVariants.{False, True, Letter, Not, And, Or, Box, Diamond}

-- a value for each row, made from the row and the values of the rows before it
abbrev pub built : {X : Type 0} → (List X → Row → X) → List X → List Row → List X
built f xs [] = xs
built f xs (r ∷ rs) = built f (xs ++ f xs r ∷ []) rs

abbrev pub formula_at : List Formula → ℕ → Formula
formula_at fs k = slice_index_or fs k falsum

-- a row's formula, over those of the earlier rows
abbrev pub form_of : List Formula → Row → Formula
form_of fs False = falsum
form_of fs True = verum
form_of fs (Letter a) = letter a
form_of fs (Not c) = neg (formula_at fs c)
form_of fs (And c e) = conj (formula_at fs c) (formula_at fs e)
form_of fs (Or c e) = disj (formula_at fs c) (formula_at fs e)
form_of fs (Box c) = box (formula_at fs c)
form_of fs (Diamond c) = dia (formula_at fs c)

-- the formula of each row
abbrev pub forms : List Row → List Formula
forms rs = built form_of [] rs

-- what a rule says: the formula of its last row
abbrev pub says : List Row → Formula
says rs = formula_at (forms rs) (length rs - 1)

-- a row's depth, over those of the earlier rows
abbrev pub depth_of : List ℕ → Row → ℕ
depth_of ds False = 0
depth_of ds True = 0
depth_of ds (Letter a) = 0
depth_of ds (Not c) = slice_index ds c
depth_of ds (And c e) = max (slice_index ds c) (slice_index ds e)
depth_of ds (Or c e) = max (slice_index ds c) (slice_index ds e)
depth_of ds (Box c) = slice_index ds c + 1
depth_of ds (Diamond c) = slice_index ds c + 1

-- the depth of each row
abbrev pub row_depths : List Row → List ℕ
row_depths rs = built depth_of [] rs

-- is each child of row number n the number of an earlier row?
abbrev pub children_earlier : ℕ → Row → Bool
children_earlier n False = true
children_earlier n True = true
children_earlier n (Letter a) = true
children_earlier n (Not c) = nat_lt c n
children_earlier n (And c e) = nat_lt c n && nat_lt e n
children_earlier n (Or c e) = nat_lt c n && nat_lt e n
children_earlier n (Box c) = nat_lt c n
children_earlier n (Diamond c) = nat_lt c n

-- is the letter, if the row is one, among 0 to 14?
abbrev pub letter_in_range : Row → Bool
letter_in_range False = true
letter_in_range True = true
letter_in_range (Letter a) = nat_le a 14
letter_in_range (Not c) = true
letter_in_range (And c e) = true
letter_in_range (Or c e) = true
letter_in_range (Box c) = true
letter_in_range (Diamond c) = true

-- may the row stand after rows of the depths ds?
abbrev pub row_fits : List ℕ → Row → Bool
row_fits ds r = letter_in_range r && children_earlier (length ds) r && nat_le (depth_of ds r) 7

-- may the rows stand, one by one, after rows of the depths ds?
abbrev pub all_fit : List ℕ → List Row → Bool
all_fit ds [] = true
all_fit ds (r ∷ rs) = row_fits ds r && all_fit (ds ++ depth_of ds r ∷ []) rs

-- is the list of rows a rule: 1 to 64 rows, every child earlier, letters at most 14, no row deeper than 7?
abbrev pub lawful : List Row → Bool
lawful rs = nat_le 1 (length rs) && nat_le (length rs) 64 && all_fit [] rs
