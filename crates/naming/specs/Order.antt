-- For proofs alone: the places of a rule that take a name, level by level in the order of their numbers.
use Rattle.std.specs.Prelude.{ℕ, ◌+◌, ◌*◌, Bool, ◌&&◌, List, length, filter, nat_lt, slice_index_or}
use Rattle.std.specs.List.{range_with_len}
use Rattle.modal.specs.declared.row.Row.{Row}
use Rattle.modal.specs.declared.row.Row.TheVariants.{False}
use Rattle.clausal.specs.Clausal.{takes_name}
use Rattle.clausal.specs.Counting.{count_of_names}
use Rattle.naming.specs.Levels.{names_at}
use Rattle.naming.specs.Marks.{is_reached}
use Rattle.naming.specs.declared.level_table.LevelTable.{LevelTable}
use Rattle.naming.specs.Numbers.{place_numbered}

-- is the place reached, and does it take a name
unfoldable pub is_named : List Row → ℕ → Bool
is_named rows n = is_reached rows n && takes_name (slice_index_or rows (place_numbered n).row False)

-- the numbers of the places of a level that take a name, as far as the first i go
unfoldable pub named_places : List Row → ℕ → ℕ → List ℕ
named_places rows l i = filter (is_named rows) (range_with_len (l * 128) i)

-- would a level with these names have more than 48 names with those that a rule takes
unfoldable pub too_many_names : List LevelTable → List Row → ℕ → Bool
too_many_names ts rows l = nat_lt 48 (length (names_at ts l) + count_of_names rows l)
