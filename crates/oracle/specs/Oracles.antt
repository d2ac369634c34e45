-- What an oracle's lists of entries are to each of its calls.
use Rattle.std.specs.Prelude.{◌≡◌, ℕ, Bool, true, List, [], ◌∷◌, ◌++◌, length, Option, Result, is_ok, MatchOption, MatchResult, IfErr, ◌≢◌, if◌then◌else◌, nat_lt, ⊤}
use Rattle.std.specs.Result.{result_ok}
use Rattle.atoms.specs.Assuming.{Obeys, PartOf}
use Rattle.atoms.specs.Clauses.{Valuation, makes_all, learnt, definitions}
use Rattle.atoms.specs.Sets.{has}
use Rattle.atoms.specs.declared.assumptions.Assumptions.{Assumptions}
use Rattle.atoms.specs.declared.clauses.Entry.{Entry}
use Rattle.atoms.specs.declared.clauses.Mark.{Mark}
use Rattle.atoms.specs.declared.clauses.Mark.TheVariants.{Definition, Learnt}
use Rattle.atoms.specs.declared.sets.AtomSet.{AtomSet}
use Rattle.oracle.specs.declared.answers.LevelFull.{LevelFull}

-- a list of entries for each level
abbrev pub Lists : Type 0
Lists = ℕ → List Entry

-- is there room for one more entry of the mark
abbrev pub room : Mark → List Entry → Bool
room Definition es = nat_lt (length (definitions es)) 97
room Learnt es = nat_lt (length (learnt es)) 128

-- Take appends the entry, or refuses where there is no room, and alters nothing else.
pub record Taken (before after : Lists) (level : ℕ) (e : Entry) (r : Result ⊤ LevelFull) : Type 0 where
  pub others : (k : ℕ) → (k ≢ level) → after k ≡ before k
  pub here : after level ≡ (if is_ok r then before level ++ e ∷ [] else before level)
  pub when : is_ok r ≡ room e.mark (before level)

-- Forget keeps the definitions of every level, in their order.
abbrev pub Forgets : Lists → Lists → Type 0
Forgets before after = (k : ℕ) → after k ≡ definitions (before k)

-- Clear leaves no entry.
abbrev pub Clears : Lists → Type 0
Clears after = (k : ℕ) → after k ≡ []

-- the valuation obeys the assumptions and makes every entry true
pub record Satisfies (es : List Entry) (w : Assumptions) (v : Valuation) : Type 0 where
  pub obeyed : Obeys v w
  pub made : makes_all v es ≡ true

-- no valuation that obeys the assumptions makes every entry true
abbrev pub Unsatisfiable : Assumptions → List Entry → Type 0
Unsatisfiable c es = (v : Valuation) → Obeys v c → makes_all v es ≢ true

-- the core is a part of the assumptions that rules every valuation out
pub record Refutes (es : List Entry) (w c : Assumptions) : Type 0 where
  pub part : PartOf c w
  pub unsatisfiable : Unsatisfiable c es

-- what `solve` answers: a valuation, by the atoms that are in, or else a core
abbrev pub Solved : Type 0
Solved = Result AtomSet Assumptions

abbrev pub Answers : List Entry → Assumptions → Solved → Type 0
Answers es w r = MatchResult r (λ s. Satisfies es w (has s)) (λ c. Refutes es w c)

-- Solve alters no entry, and answers for the entries of the level.
pub record Solves (before after : Lists) (level : ℕ) (w : Assumptions) (r : Solved) : Type 0 where
  pub same : (k : ℕ) → after k ≡ before k
  pub answer : Answers (before level) w r

-- where the answer is a core, it is all that was assumed
abbrev pub WholeCore : Assumptions → Solved → Type 0
WholeCore w r = IfErr r (λ c. c ≡ w)

-- the valuation of an answer, if it has one
abbrev pub valuation_in : Solved → Option AtomSet
valuation_in = result_ok

-- what is found for a level's entries: a valuation, or that there is none
abbrev pub Finds : List Entry → Assumptions → Option AtomSet → Type 0
Finds es w r = MatchOption r (Unsatisfiable w es) (λ s. Satisfies es w (has s))

-- is there a valuation
abbrev pub Satisfiable : List Entry → Assumptions → Type 0
Satisfiable es w = (v : Valuation) × Satisfies es w v

-- there is a valuation for the one list exactly where there is one for the other
pub record SameVerdict (es fs : List Entry) (w : Assumptions) : Type 0 where
  pub there : Satisfiable es w → Satisfiable fs w
  pub back : Satisfiable fs w → Satisfiable es w
