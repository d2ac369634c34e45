-- What a trail, the atoms that are in and out so far, makes of clauses.
use Rattle.std.specs.Prelude.{◌≡◌, ℕ, ◌<◌, Bool, false, not, ◌&&◌, ◌||◌, List, [], ◌∷◌, ◌==◌, ◌≢◌}
use Rattle.atoms.specs.Assuming.{settled}
use Rattle.atoms.specs.Sets.{has}
use Rattle.atoms.specs.declared.assumptions.Assumptions.{Assumptions}
use Rattle.atoms.specs.declared.clauses.Clause.{Clause}
use Rattle.atoms.specs.declared.clauses.Entry.{Entry}
use Rattle.atoms.specs.declared.clauses.Literal.{Literal}
use Rattle.atoms.specs.declared.sets.AtomSet.{AtomSet}
use Rattle.search.specs.declared.status.Status.{Status}
use Rattle.search.specs.declared.status.Status.TheVariants.{Conflict, Forced, Open}

-- the atom is the only member of the set
pub record Sole (s : AtomSet) (a : ℕ) : Type 0 where
  pub small : a < 64
  pub members : (i : ℕ) → has s i ≡ (a == i)

-- does the trail make a literal true that the clause has at the atom
abbrev pub trail_makes_at : Assumptions → Clause → ℕ → Bool
trail_makes_at w c a = (has c.plain a && has w.within a) || (has c.negated a && has w.without a)

-- is the atom an undecided one of the set
abbrev pub undecided_at : Assumptions → AtomSet → ℕ → Bool
undecided_at w s a = has s a && not (settled w a)

-- no literal of the clause is true, and none undecided
pub record Conflicts (w : Assumptions) (c : Clause) : Type 0 where
  pub untrue : (a : ℕ) → a < 64 → trail_makes_at w c a ≡ false
  pub plain : (a : ℕ) → a < 64 → undecided_at w c.plain a ≡ false
  pub negated : (a : ℕ) → a < 64 → undecided_at w c.negated a ≡ false

-- no literal of the clause is true, and x is the only one undecided
pub record Forces (w : Assumptions) (c : Clause) (x : Literal) : Type 0 where
  pub small : x.atom < 64
  pub untrue : (a : ℕ) → a < 64 → trail_makes_at w c a ≡ false
  pub plain : (a : ℕ) → a < 64 → undecided_at w c.plain a ≡ x.holds && x.atom == a
  pub negated : (a : ℕ) → a < 64 → undecided_at w c.negated a ≡ not x.holds && x.atom == a

-- neither
pub record LeavesOpen (w : Assumptions) (c : Clause) : Type 0 where
  pub conflict : Conflicts w c → ⊥
  pub forced : (x : Literal) → Forces w c x → ⊥

-- what the trail makes of the clause
abbrev pub Judged : Assumptions → Clause → Status → Type 0
Judged w c Conflict = Conflicts w c
Judged w c (Forced x) = Forces w c x
Judged w c Open = LeavesOpen w c

-- what the trail makes of the first clause of the list that is not open
pub data FirstJudged (w : Assumptions) : List Entry → Status → Type 0 where
  none : FirstJudged w [] Open
  here : {e : Entry} {es : List Entry} {s : Status} → (s ≢ Open) → Judged w e.clause s → FirstJudged w (e ∷ es) s
  later : {e : Entry} {es : List Entry} {s : Status} → Judged w e.clause Open → FirstJudged w es s → FirstJudged w (e ∷ es) s
