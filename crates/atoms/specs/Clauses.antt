-- Literals, clauses and lists of entries under a valuation.
use Rattle.std.specs.Prelude.{ℕ, Bool, true, false, cond, not, ◌&&◌, ◌||◌, List, [], ◌∷◌, filter}
use Rattle.lists.specs.Lists.{every, some}
use Rattle.atoms.specs.Sets.{has, some_below, with_atom}
use Rattle.atoms.specs.declared.clauses.Clause.{Clause}
use Rattle.atoms.specs.declared.clauses.Entry.{Entry}
use Rattle.atoms.specs.declared.clauses.Literal.{Literal}
use Rattle.atoms.specs.declared.clauses.Mark.TheVariants.{Definition, Learnt}

-- a valuation, by which atoms are in
abbrev pub Valuation : Type 0
Valuation = ℕ → Bool

-- the literal that the atom is in, and its negation
abbrev pub positive : ℕ → Literal
positive a = record { atom = a; holds = true }

abbrev pub negation : ℕ → Literal
negation a = record { atom = a; holds = false }

-- does the valuation make the literal true
abbrev pub obeys_one : Valuation → Literal → Bool
obeys_one v x = cond x.holds (v x.atom) (not (v x.atom))

-- does the valuation make a literal true that the clause has at the atom
abbrev pub makes_at : Valuation → Clause → ℕ → Bool
makes_at v c a = (has c.plain a && v a) || (has c.negated a && not (v a))

-- does the valuation make one literal of the clause true
unfoldable pub makes : Valuation → Clause → Bool
makes v c = some_below 64 (makes_at v c)

-- does it make every entry's clause true
abbrev pub makes_all : Valuation → List Entry → Bool
makes_all v = every (λ e. makes v e.clause)

-- does the clause name the atom
abbrev pub has_atom : Clause → ℕ → Bool
has_atom c a = has c.plain a || has c.negated a

-- does an entry name the atom
abbrev pub names : List Entry → ℕ → Bool
names es a = some (λ e. has_atom e.clause a) es

abbrev pub is_learnt : Entry → Bool
is_learnt e = elim e.mark [ Definition ↦ false | Learnt ↦ true ]

abbrev pub is_definition : Entry → Bool
is_definition e = not (is_learnt e)

-- the learnt entries, and the definitions, in their order
abbrev pub learnt : List Entry → List Entry
learnt = filter is_learnt

abbrev pub definitions : List Entry → List Entry
definitions = filter is_definition

-- the clause with one literal more
abbrev pub with_literal : Clause → Literal → Clause
with_literal c x = cond x.holds (record { plain = with_atom c.plain x.atom; negated = c.negated }) (record { plain = c.plain; negated = with_atom c.negated x.atom })

-- the clause of a list of literals
abbrev pub clause_from : List Literal → Clause
clause_from [] = record { plain = record { bits = 0 }; negated = record { bits = 0 } }
clause_from (x ∷ xs) = with_literal (clause_from xs) x
