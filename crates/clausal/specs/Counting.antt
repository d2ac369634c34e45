-- How many names a rule takes at each level, and so when adding is refused.
use Rattle.std.specs.Prelude.{ℕ, zero, suc, ◌+◌, Bool, cond, ◌&&◌, List, [], ◌∷◌, ◌++◌, length, Ok, Err, filter, Result, ◌==◌, nat_le, nat_lt, slice_index_or}
use Rattle.std.specs.List.{range_with_len}
use Rattle.lists.specs.Lists.{some, first_at}
use Rattle.modal.specs.declared.row.Row.{Row}
use Rattle.modal.specs.declared.row.Row.TheVariants.{False}
use Rattle.clausal.specs.Clausal.{takes_name}
use Rattle.clausal.specs.Places.{last_of, leads_of, sign_eq}
use Rattle.clausal.specs.declared.faults.AddFault.{AddFault}
use Rattle.clausal.specs.declared.faults.AddFault.TheVariants.{TooManyRules, TooManyNames}
use Rattle.clausal.specs.declared.places.Place.{Place}

abbrev pub place_eq : Place → Place → Bool
place_eq p q = p.row == q.row && (sign_eq p.plus q.plus && p.level == q.level)

-- the places of two lists, each once if the second has each once
abbrev pub joined_by : List Place → List Place → List Place
joined_by [] ps = ps
joined_by (q ∷ qs) ps = joined_by qs (cond (some (place_eq q) ps) ps (q ∷ ps))

-- with what the listed places of row k lead to
abbrev pub spread : List Row → ℕ → List Place → List Place → List Place
spread rows k [] ps = ps
spread rows k (p ∷ qs) ps = spread rows k qs (cond (p.row == k) (joined_by (leads_of rows p) ps) ps)

-- row after row down to row 0: children are earlier
abbrev pub walk : List Row → ℕ → List Place → List Place
walk rows zero ps = ps
walk rows (suc k) ps = walk rows k (spread rows k ps ps)

-- the places reached from the rule's own, each once
abbrev pub places_of : List Row → List Place
places_of rows = walk rows (length rows) (last_of rows ∷ [])

-- does the place take a name at the level
abbrev pub counts_at : List Row → ℕ → Place → Bool
counts_at rows l p = takes_name (slice_index_or rows p.row False) && p.level == l

-- the names that a rule takes at a level: one for each place that takes one, and the handle at level 0
abbrev pub count_of_names : List Row → ℕ → ℕ
count_of_names rows l = length (filter (counts_at rows l) (places_of rows)) + cond (l == 0) 1 0

-- the names that the rules take together
abbrev pub names_of : List (List Row) → ℕ → ℕ
names_of [] l = 0
names_of (r ∷ rs) l = count_of_names r l + names_of rs l

-- the lowest level with more than 48 names, or 8
unfoldable pub crowded : List (List Row) → ℕ
crowded rules = first_at (λ l. nat_lt 48 (names_of rules l)) (range_with_len 0 8)

-- what adding a rule to those held answers: its number, or why it is refused
unfoldable pub add_answer : List (List Row) → List Row → Result ℕ AddFault
add_answer rules rows = cond (nat_le 16 (length rules)) (Err TooManyRules) (cond (nat_lt (crowded (rules ++ rows ∷ [])) 8) (Err (TooManyNames (crowded (rules ++ rows ∷ [])))) (Ok (length rules)))
