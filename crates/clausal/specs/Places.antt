-- The places of a rule: which are reached, and the literal of each.
use Rattle.std.specs.Prelude.{ℕ, suc, ◌+◌, ◌-◌, Bool, true, false, cond, not, ◌&&◌, List, [], ◌∷◌, length, ◌==◌, slice_index_or}
use Rattle.lists.specs.Lists.{some, first_at, In}
use Rattle.modal.specs.Rows.{built}
use Rattle.modal.specs.declared.row.Row.{Row}
use Rattle.modal.specs.declared.row.Row.TheVariants.{False, True, Letter, Not, And, Or, Box, Diamond}
use Rattle.atoms.specs.Clauses.{positive}
use Rattle.atoms.specs.declared.clauses.Literal.{Literal}
use Rattle.clausal.specs.States.{State, rule_at}
use Rattle.clausal.specs.declared.names.Name.{Name}
use Rattle.clausal.specs.declared.names.Name.TheVariants.{Free as free, Place as place, Handle as handle}
use Rattle.clausal.specs.declared.places.Place.{Place}

-- the places that a row with a sign at a level leads to
abbrev pub leads : Row → Bool → ℕ → List Place
leads False s l = []
leads True s l = []
leads (Letter a) s l = []
leads (Not c) s l = record { row = c; plus = not s; level = l } ∷ []
leads (And c e) s l = record { row = c; plus = s; level = l } ∷ record { row = e; plus = s; level = l } ∷ []
leads (Or c e) s l = record { row = c; plus = s; level = l } ∷ record { row = e; plus = s; level = l } ∷ []
leads (Box c) s l = record { row = c; plus = s; level = suc l } ∷ []
leads (Diamond c) s l = record { row = c; plus = s; level = suc l } ∷ []

-- the places that a place of the rule leads to
abbrev pub leads_of : List Row → Place → List Place
leads_of rows p = leads (slice_index_or rows p.row False) p.plus p.level

-- the place of the rule itself: its last row with plus at level 0
abbrev pub last_of : List Row → Place
last_of rows = record { row = length rows - 1; plus = true; level = 0 }

-- the places of a rule: its own, and those that a reached place leads to
pub data Reached (rows : List Row) : Place → Type 0 where
  last : Reached rows (last_of rows)
  next : {p q : Place} → Reached rows p → In q (leads_of rows p) → Reached rows q

-- the literal that is always true, and the one that never is: atom 15 and its negation
abbrev pub constant : Bool → Literal
constant b = record { atom = 15; holds = b }

-- the literal of row k with a sign; nm has the name of each row with a sign at this level, ls the literals of the rows before it
abbrev pub literal_of : (ℕ → Bool → ℕ) → List (Bool → Literal) → ℕ → Row → Bool → Literal
literal_of nm ls k False s = constant (not s)
literal_of nm ls k True s = constant s
literal_of nm ls k (Letter a) s = record { atom = a; holds = s }
literal_of nm ls k (Not c) s = slice_index_or ls c constant (not s)
literal_of nm ls k (And c e) s = positive (nm k s)
literal_of nm ls k (Or c e) s = positive (nm k s)
literal_of nm ls k (Box c) s = positive (nm k s)
literal_of nm ls k (Diamond c) s = positive (nm k s)

-- the literal of each row at a level, by its sign
abbrev pub literals_of : (ℕ → Bool → ℕ) → List Row → List (Bool → Literal)
literals_of nm rows = built (λ ls. literal_of nm ls (length ls)) [] rows

-- are the signs the same
abbrev pub sign_eq : Bool → Bool → Bool
sign_eq true b = b
sign_eq false b = not b

-- does the name stand for row k of rule r with the sign
abbrev pub is_place_of : ℕ → ℕ → Bool → Name → Bool
is_place_of r k s free = false
is_place_of r k s (place r2 k2 s2) = r == r2 && (k == k2 && sign_eq s s2)
is_place_of r k s (handle _) = false

-- the atom that stands for a place of a rule among a level's names, or 0 where none does
abbrev pub name_in : List Name → ℕ → ℕ → Bool → ℕ
name_in xs r k s = cond (some (is_place_of r k s) xs) (16 + first_at (is_place_of r k s) xs) 0

-- the name of row k of rule r with a sign at a level
abbrev pub name_of : State → ℕ → ℕ → ℕ → Bool → ℕ
name_of st l r k s = name_in (st.names l) r k s

-- the literal of row k of rule r with a sign at a level
abbrev pub lit : State → ℕ → ℕ → Bool → ℕ → Literal
lit st r l s k = slice_index_or (literals_of (name_of st l r) (rule_at st r)) k constant s

-- the literal that a rule's handle implies: that of its own place
abbrev pub rule_lit : State → ℕ → Literal
rule_lit st r = lit st r 0 true (length (rule_at st r) - 1)
