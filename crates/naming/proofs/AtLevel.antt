-- What stands at a level, by the element that is read there.
use Rattle.std.proofs.lemmas.List.FromFn.{get_or-range_with_len}
use Rattle.std.proofs.Common.{◌≡◌, ℕ, ◌<◌, ◌≤◌, List, map, length, get_or, set, ap, ◌∙◌, arith, zero-add}
use Rattle.std.proofs.lemmas.List.{get_or-map, get_or_past, get_or-set_same, get_or-set_other, length-map, map-set}
use Rattle.std.specs.List.{range_with_len}
use Rattle.naming.specs.Levels.{no_lists, lists_of, lists_at}
use Rattle.naming.specs.declared.level_table.LevelTable.{LevelTable}

pub level_read : (ts : List LevelTable) (l : ℕ) (d : LevelTable) → l < length ts → lists_at ts l ≡ lists_of (get_or ts l d)
level_read ts l d h = get_or-map lists_of ts l d no_lists h

pub level_beyond : (ts : List LevelTable) (l : ℕ) → length ts ≤ l → lists_at ts l ≡ no_lists
level_beyond ts l h = get_or_past (map lists_of ts) l no_lists (omega (arith, length-map ts lists_of))

-- after a write at one level
module _ {A B : Type 0} (f : A → B) (d : B) (xs : List A) (l : ℕ) (x : A) where
  pub read_set : l < length xs → get_or (map f (set xs l x)) l d ≡ f x
  read_set h = ap (λ ys. get_or ys l d) (map-set f xs l x) ∙ get_or-set_same (map f xs) l (f x) d (omega (arith, length-map xs f))

  pub read_other : (k : ℕ) → (k ≡ l → ⊥) → get_or (map f (set xs l x)) k d ≡ get_or (map f xs) k d
  read_other k n = ap (λ ys. get_or ys k d) (map-set f xs l x) ∙ get_or-set_other (map f xs) l k (f x) d n

-- the levels in order, each at its number
pub level_at : (k d : ℕ) → k < 8 → get_or (range_with_len 0 8) k d ≡ k
level_at k d h = get_or-range_with_len 0 8 k d h ∙ zero-add k
