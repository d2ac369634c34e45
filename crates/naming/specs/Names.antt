-- The names that rules take, in order, as a table's type has them; and, for proofs alone, when two names are the same, and literals over names.
use Rattle.std.specs.Prelude.{ℕ, suc, Bool, true, false, cond, List, [], ◌∷◌, ◌++◌, map, ◌==◌, slice_index_or}
use Rattle.modal.specs.declared.row.Row.{Row}
use Rattle.atoms.specs.declared.clauses.Literal.{Literal}
use Rattle.clausal.specs.Places.{is_place_of, literals_of, name_in}
use Rattle.clausal.specs.States.{is_handle_of}
use Rattle.clausal.specs.declared.names.Name.{Name}
use Rattle.clausal.specs.declared.names.Name.TheVariants.{Free as free, Place as place, Handle as handle}
use Rattle.naming.specs.Numbers.{place_numbered}
use Rattle.naming.specs.Order.{named_places}

-- do two names stand for the same
abbrev pub same_name : Name → Name → Bool
same_name free free = true
same_name free (place _ _ _) = false
same_name free (handle _) = false
same_name (place r k s) x = is_place_of r k s x
same_name (handle r) x = is_handle_of r x

-- the literal of a row with a sign, over a level's names
unfoldable pub literal_in : List Name → ℕ → List Row → Bool → ℕ → Literal
literal_in xs r rows s k = slice_index_or (literals_of (name_in xs r) rows) k (λ t. record { atom = 15; holds = t }) s

-- the name of a place of rule r, by the place's number
abbrev pub place_name : ℕ → ℕ → Name
place_name r n = place r (place_numbered n).row (place_numbered n).plus

-- the names that rule r takes at a level, in order: by row, plus before minus, the handle last
abbrev pub names_for : ℕ → List Row → ℕ → List Name
names_for r rows l = map (place_name r) (named_places rows l 128) ++ cond (l == 0) (handle r ∷ []) []

-- the names that the rules take at a level, the first of them being rule r
abbrev pub names_from : ℕ → List (List Row) → ℕ → List Name
names_from r [] l = []
names_from r (rows ∷ rs) l = names_for r rows l ++ names_from (suc r) rs l
