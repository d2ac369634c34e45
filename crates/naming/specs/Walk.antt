-- For proofs alone: a walk over the places of a rule, with what it is still to visit.
use Rattle.std.specs.Prelude.{◌≡◌, ℕ, Bool, true, false, ◌⊎◌, List, length, slice_index_or}
use Rattle.lists.specs.Lists.{In}
use Rattle.modal.specs.declared.row.Row.{Row}
use Rattle.clausal.specs.Places.{last_of, leads_of, Reached}
use Rattle.clausal.specs.declared.places.Place.{Place}
use Rattle.naming.specs.Numbers.{number_of, place_numbered}

-- the marks and the stack of a walk that is still to visit the places ps
pub record WalkInvariant (rows : List Row) (ps : List Place) (marks : List Bool) (todo : List ℕ) : Type 0 where
  pub size : length marks ≡ 1024
  pub only : (n : ℕ) → slice_index_or marks n false ≡ true → Reached rows (place_numbered n)
  pub listed : (n : ℕ) → In n todo → slice_index_or marks n false ≡ true
  pub due : (p : Place) → In p ps → Reached rows p
  pub closed : (n : ℕ) → slice_index_or marks n false ≡ true → In n todo ⊎ ((p : Place) → In p (leads_of rows (place_numbered n)) → (slice_index_or marks (number_of p) false ≡ true) ⊎ In p ps)
  pub root : (slice_index_or marks (number_of (last_of rows)) false ≡ true) ⊎ In (last_of rows) ps
