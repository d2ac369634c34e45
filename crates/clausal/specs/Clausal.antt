-- The clausal form of a session's rules: which clauses a name gives, and which names there are.
use Rattle.std.specs.Prelude.{◌≡◌, ℕ, zero, suc, ◌<◌, ◌≤◌, Bool, true, false, cond, ◌⊎◌, List, [], ◌∷◌, ◌++◌, length, ◌==◌, nat_lt, slice_index_or}
use Rattle.lists.specs.Lists.{In, Matches}
use Rattle.modal.specs.Rows.{lawful}
use Rattle.modal.specs.declared.row.Row.{Row}
use Rattle.modal.specs.declared.row.Row.TheVariants.{False, True, Letter, Not, And, Or, Box, Diamond}
use Rattle.atoms.specs.Clauses.{definitions, negation}
use Rattle.atoms.specs.Sets.{has}
use Rattle.atoms.specs.declared.clauses.Clause.{Clause}
use Rattle.atoms.specs.declared.clauses.Entry.{Entry}
use Rattle.atoms.specs.declared.clauses.Literal.{Literal}
use Rattle.clausal.specs.Places.{Reached, constant, lit, rule_lit}
use Rattle.clausal.specs.States.{State, name_at, rule_at}
use Rattle.clausal.specs.declared.modal_clauses.ModalClause.{ModalClause}
use Rattle.clausal.specs.declared.names.Name.{Name}
use Rattle.clausal.specs.declared.names.Name.TheVariants.{Free as free, Place as place, Handle as handle}
use Rattle.clausal.specs.declared.places.Place.{Place}
use Rattle.clausal.specs.declared.shapes.Shape.{Shape}
use Rattle.clausal.specs.declared.shapes.Shape.TheVariants.{Plain, Both, Either, All, One}

-- what a row is under a sign: minus swaps and with or, box with diamond
abbrev pub shape : Row → Bool → Shape
shape False s = Plain
shape True s = Plain
shape (Letter a) s = Plain
shape (Not c) s = Plain
shape (And c e) true = Both c e
shape (And c e) false = Either c e
shape (Or c e) true = Either c e
shape (Or c e) false = Both c e
shape (Box c) true = All c
shape (Box c) false = One c
shape (Diamond c) true = One c
shape (Diamond c) false = All c

-- does a place at the row take a name: at an and, or, box or diamond it does
abbrev pub takes_name : Row → Bool
takes_name False = false
takes_name True = false
takes_name (Letter a) = false
takes_name (Not c) = false
takes_name (And c e) = true
takes_name (Or c e) = true
takes_name (Box c) = true
takes_name (Diamond c) = true

-- row k of rule r
abbrev pub row_at : State → ℕ → ℕ → Row
row_at st r k = slice_index_or (rule_at st r) k False

-- the definitions of name n by the shape of its row, each as its list of literals; x has the literal of each row of the rule at the same level
abbrev pub defines : ℕ → (ℕ → Literal) → Shape → List (List Literal)
defines n x Plain = []
defines n x (Both c e) = (negation n ∷ x c ∷ []) ∷ (negation n ∷ x e ∷ []) ∷ []
defines n x (Either c e) = (negation n ∷ x c ∷ x e ∷ []) ∷ []
defines n x (All c) = []
defines n x (One c) = []

-- what the names of a level give together, in their order, the first name being atom n
abbrev pub gather : {A : Type 0} → (ℕ → Name → List A) → ℕ → List Name → List A
gather f n [] = []
gather f n (x ∷ xs) = f n x ++ gather f (suc n) xs

-- the definitions that atom n of level l gives to rule r, by what it stands for: none if it is no name of that rule
abbrev pub defines_name : State → ℕ → ℕ → ℕ → Name → List (List Literal)
defines_name st l r n free = []
defines_name st l r n (place q k s) = cond (r == q) (defines n (lit st q l s) (shape (row_at st q k) s)) []
defines_name st l r n (handle q) = cond (r == q) ((negation n ∷ rule_lit st q ∷ []) ∷ []) []

-- the definitions of rule r at level l
abbrev pub defines_rule : State → ℕ → ℕ → List (List Literal)
defines_rule st l r = gather (defines_name st l r) 16 (st.names l)

-- the definition with which each of the levels 0 to 7 starts: "atom 15"
abbrev pub first_clauses : ℕ → List (List Literal)
first_clauses l = cond (nat_lt l 8) ((constant true ∷ []) ∷ []) []

-- the row that a shape asks for at every successor, if it is a box
abbrev pub boxed : Shape → List ℕ
boxed Plain = []
boxed (Both c e) = []
boxed (Either c e) = []
boxed (All c) = c ∷ []
boxed (One c) = []

-- the row that a shape asks for at some successor, if it is a diamond
abbrev pub diamonded : Shape → List ℕ
diamonded Plain = []
diamonded (Both c e) = []
diamonded (Either c e) = []
diamonded (All c) = []
diamonded (One c) = c ∷ []

-- the clauses "name n, then box (or diamond) the literal" of these rows; x has the literal of each row of the rule one level further
abbrev pub modals : ℕ → (ℕ → Literal) → List ℕ → List ModalClause
modals n x [] = []
modals n x (c ∷ cs) = record { name = n; literal = x c } ∷ modals n x cs

-- the box clauses that atom n of level l gives, if `under` is `boxed`; its diamond clauses, if it is `diamonded`
abbrev pub modal_name : (Shape → List ℕ) → State → ℕ → ℕ → Name → List ModalClause
modal_name under st l n free = []
modal_name under st l n (place r k s) = modals n (lit st r (suc l) s) (under (shape (row_at st r k) s))
modal_name under st l n (handle r) = []

-- the box or diamond clauses of a level, by rising name
abbrev pub modals_at : (Shape → List ℕ) → State → ℕ → List ModalClause
modals_at under st l = gather (modal_name under st l) 16 (st.names l)

-- by rising names, each once
abbrev pub Rising : List ModalClause → Type 0
Rising [] = Unit {0}
Rising (d ∷ ds) = ((e : ModalClause) → In e ds → d.name < e.name) × Rising ds

-- the box or diamond clauses of a level: by rising names, all of atoms 0 to 63, and none at the last level
pub record Orderly (l : ℕ) (ms : List ModalClause) : Type 0 where
  pub rising : Rising ms
  pub small : (m : ModalClause) → In m ms → (m.name < 64) × (m.literal.atom < 64)
  pub last : 7 ≤ l → ms ≡ []

-- is the literal in the clause
abbrev pub has_literal : Clause → Literal → Bool
has_literal c x = cond x.holds (has c.plain x.atom) (has c.negated x.atom)

-- the clause is the set of these literals, all of atoms 0 to 63: each is in it, and no other
pub record ClauseOf (xs : List Literal) (c : Clause) : Type 0 where
  pub small : (x : Literal) → In x xs → x.atom < 64
  pub within : (x : Literal) → x.atom < 64 → has_literal c x ≡ true → In x xs
  pub whole : (x : Literal) → In x xs → has_literal c x ≡ true

-- the entry's clause is the set of these literals
abbrev pub EntryOf : List Literal → Entry → Type 0
EntryOf xs e = ClauseOf xs e.clause

-- the entries are those of the definitions of the first k rules and no others: the level's first, then rule after rule, those of one rule in whatever order
abbrev pub DefinedBy : State → ℕ → ℕ → List Entry → Type 0
DefinedBy st l zero es = Matches EntryOf (first_clauses l) es
DefinedBy st l (suc k) es = (old : List Entry) × (new : List Entry) × (es ≡ old ++ new) × DefinedBy st l k old × Matches EntryOf (defines_rule st l k) new

-- what an atom of level l stands for is nothing, a reached place of a rule that takes a name, or at level 0 a rule
abbrev pub Proper : State → ℕ → Name → Type 0
Proper st l free = Unit {0}
Proper st l (place r k s) = (r < length st.rules) × Reached (rule_at st r) (record { row = k; plus = s; level = l }) × (takes_name (row_at st r k) ≡ true)
Proper st l (handle r) = (r < length st.rules) × (l ≡ 0)

-- the names are those of the rules: each reached place that takes a name has one, each rule has one, and there are no others
pub record Naming (st : State) : Type 0 where
  pub held : length st.rules ≤ 16
  pub all_lawful : (r : ℕ) → r < length st.rules → lawful (rule_at st r) ≡ true
  pub room : (l : ℕ) → length (st.names l) ≤ 48
  pub proper : (l i : ℕ) → Proper st l (name_at st l i)
  pub named : (r : ℕ) (p : Place) → r < length st.rules → Reached (rule_at st r) p → takes_name (row_at st r p.row) ≡ true → In (place r p.row p.plus) (st.names p.level)
  pub handled : (r : ℕ) → r < length st.rules → In (handle r) (st.names 0)
  -- no two atoms of a level stand for the same, unless they are free
  pub once : (l i j : ℕ) → name_at st l i ≡ name_at st l j → (name_at st l i ≡ free) ⊎ (i ≡ j)

-- a session holds the clausal form of its rules: their names, and of each level exactly the box clauses, diamond clauses and definitions that these names give
pub record Clausal (st : State) : Type 0 where
  pub naming : Naming st
  pub boxes : (l : ℕ) → st.boxes l ≡ modals_at boxed st l
  pub diamonds : (l : ℕ) → st.diamonds l ≡ modals_at diamonded st l
  pub written : (l : ℕ) → DefinedBy st l (length st.rules) (definitions (st.entries l))
