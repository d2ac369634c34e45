-- The theorems on the worked examples, and those that they follow from.
use Rattle.std.specs.Prelude.{◌≡◌, ℕ, suc, ◌-◌, ◌<◌, Bool, true, ◌&&◌, List, [], ◌∷◌, length, filter, ◌==◌, nat_le, slice_index_or}
use Rattle.std.specs.List.{range_with_len}
use Rattle.lists.specs.Lists.{every, In}
use Rattle.modal.specs.Kripke.{Model, meets}
use Rattle.modal.specs.Rows.{lawful, says}
use Rattle.modal.specs.declared.row.Row.{Row}
use Rattle.modal.specs.declared.row.Row.TheVariants.{False}
use Rattle.clausal.specs.Clausal.{Clausal, diamonded, shape}
use Rattle.clausal.specs.Counting.{names_of, places_of}
use Rattle.clausal.specs.States.{State, rule_at}
use Rattle.clausal.specs.Trees.{Tree, Complete, size}
use Rattle.clausal.specs.declared.places.Place.{Place}
use Rattle.clausal.specs.declared.shapes.Shape.{Shape}
use Rattle.clausal.specs.declared.shapes.Shape.TheVariants.{Both}
use Rattle.law.specs.Verdicts.{handles}
use Rattle.samples.specs.Samples.{Sample, Holds, HeldBySome, HeldBy, numbers}

-- whatever rules a world of a model meets together have a complete tree under their handles, in every session that holds them
abbrev pub MetHasTree : Type 0
MetHasTree = (st : State) → Clausal st → (asked : List ℕ) → ((k : ℕ) → In k asked → k < length st.rules) → (m : Model) (w : ℕ) → w < length m.worlds → ((k : ℕ) → In k asked → meets (says (rule_at st k)) m.worlds w ≡ true) → (t : Tree) × Complete st 0 (handles st asked) t

-- do the rules take at most 48 names at the level
abbrev pub leaves_room : List (List Row) → ℕ → Bool
leaves_room rules l = nat_le (names_of rules l) 48

-- may a session hold the rules: at most 16, each lawful, with room for their names at each level
abbrev pub fit : List (List Row) → Bool
fit rules = nat_le (length rules) 16 && (every lawful rules && every (leaves_room rules) (range_with_len 0 8))

-- rules that fit are held by some session
abbrev pub FittingRulesHeld : Type 0
FittingRulesHeld = (rules : List (List Row)) → fit rules ≡ true → HeldBySome rules

-- what the row is under the sign
abbrev pub shape_at : List Row → ℕ → Bool → Shape
shape_at rows k s = shape (slice_index_or rows k False) s

-- is the place at the level, and does it give a diamond clause
abbrev pub is_diamond_at : List Row → ℕ → Place → Bool
is_diamond_at rows l p = p.level == l && (length (diamonded (shape_at rows p.row p.plus)) == 1)

-- the places of a rule at a level that give diamond clauses
abbrev pub diamond_places : List Row → ℕ → List Place
diamond_places rows l = filter (is_diamond_at rows l) (places_of rows)

-- the rows, each with its sign, that hold wherever the rule does: the last one, and both parts of a conjunction that does
pub data Demanded (rows : List Row) : ℕ → Bool → Type 0 where
  whole : Demanded rows (length rows - 1) true
  left : {k c e : ℕ} {s : Bool} → Demanded rows k s → shape_at rows k s ≡ Both c e → Demanded rows c s
  right : {k c e : ℕ} {s : Bool} → Demanded rows k s → shape_at rows k s ≡ Both c e → Demanded rows e s

-- One rule, no diamond of which is at level 1, and whose diamonds at level 0 all hold wherever the rule does: each of its complete trees has one world for each of these diamonds, and its root.
abbrev pub WorldsCounted : Type 0
WorldsCounted = (rows : List Row) → ((p : Place) → In p (diamond_places rows 0) → Demanded rows p.row p.plus) → diamond_places rows 1 ≡ [] → (st : State) → HeldBy (rows ∷ []) st → (t : Tree) → Complete st 0 (handles st (numbers (rows ∷ []))) t → size t ≡ suc (length (diamond_places rows 0))

abbrev pub AllHold : List Sample → Type 0
AllHold cases = (c : Sample) → In c cases → Holds c
