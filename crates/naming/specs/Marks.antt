-- For proofs alone: marks on the numbers of places.
use Rattle.std.specs.Prelude.{◌≡◌, ℕ, Bool, false, List, count_by, slice_index_or}
use Rattle.lists.specs.Lists.{some}
use Rattle.modal.specs.declared.row.Row.{Row}
use Rattle.clausal.specs.Counting.{place_eq, places_of}
use Rattle.naming.specs.Numbers.{place_numbered}

-- how many are marked
abbrev pub count_of_marks : List Bool → ℕ
count_of_marks = count_by (λ b. b)

-- is the place of the number reached
unfoldable pub is_reached : List Row → ℕ → Bool
is_reached rows n = some (place_eq (place_numbered n)) (places_of rows)

-- marked are exactly the reached places
abbrev pub MarksReached : List Row → List Bool → Type 0
MarksReached rows marks = (n : ℕ) → slice_index_or marks n false ≡ is_reached rows n
