-- Rules that some world of some Kripke model meets together, and which answers about them are right.
use Rattle.std.specs.Prelude.{◌≡◌, ℕ, ◌<◌, Bool, true, false, List, length}
use Rattle.lists.specs.Lists.{In}
use Rattle.modal.specs.Kripke.{Model, meets}
use Rattle.modal.specs.Rows.{says}
use Rattle.modal.specs.declared.row.Row.{Row}

-- a world of a Kripke model that meets what every rule says
pub record Meetable (rules : List (List Row)) : Type 0 where
  pub model : Model
  pub world : ℕ
  pub inside : world < length model.worlds
  pub met : (rows : List Row) → In rows rules → meets (says rows) model.worlds world ≡ true

-- the answer yes comes with such a world, and after the answer no there is none
abbrev pub Decides : List (List Row) → Bool → Type 0
Decides rules met = (met ≡ true → Meetable rules) × (met ≡ false → Meetable rules → ⊥)
