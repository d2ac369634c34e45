-- The order in which the search tries, and what it answers.
use Rattle.std.specs.Prelude.{◌≡◌, ℕ, ◌<◌, true, false, not, ◌&&◌, ◌||◌, List, Some, None, Option, nat_lt}
use Rattle.atoms.specs.Assuming.{clashing, Apart, settled, Joined}
use Rattle.atoms.specs.Clauses.{positive, negation, names}
use Rattle.atoms.specs.Sets.{has, count_below}
use Rattle.atoms.specs.declared.assumptions.Assumptions.{Assumptions}
use Rattle.atoms.specs.declared.clauses.Entry.{Entry}
use Rattle.atoms.specs.declared.clauses.Literal.{Literal}
use Rattle.atoms.specs.declared.sets.AtomSet.{AtomSet}
use Rattle.search.specs.Judging.{FirstJudged}
use Rattle.search.specs.declared.status.Status.TheVariants.{Conflict, Forced, Open}

-- how many atoms the trail leaves undecided
abbrev pub undecided_in : Assumptions → ℕ
undecided_in w = count_below 64 (λ a. not (settled w a))

-- every atom is in or out
abbrev pub Full : Assumptions → Type 0
Full w = (a : ℕ) → a < 64 → settled w a ≡ true

-- the atom is the lowest undecided one
pub record LowestUndecided (w : Assumptions) (a : ℕ) : Type 0 where
  pub small : a < 64
  pub free : settled w a ≡ false
  pub first : (i : ℕ) → i < a → settled w i ≡ true

-- The search from a trail. It finds nothing where the trail clashes or makes a clause false; it follows the first
-- clause with one undecided literal left; otherwise it tries the lowest undecided atom out, and if that finds nothing,
-- in; with no atom undecided the trail is the valuation.
pub data Searched (es : List Entry) : Assumptions → Option AtomSet → Type 0 where
  clash : {w : Assumptions} → clashing w ≡ true → Searched es w None
  conflict : {w : Assumptions} → Apart w → FirstJudged w es Conflict → Searched es w None
  follow : {w u : Assumptions} {r : Option AtomSet} (x : Literal) → Apart w → FirstJudged w es (Forced x) → Joined w x u → Searched es u r → Searched es w r
  full : {w : Assumptions} → Apart w → FirstJudged w es Open → Full w → Searched es w (Some w.within)
  try_out : {w u : Assumptions} {v : AtomSet} (a : ℕ) → Apart w → FirstJudged w es Open → LowestUndecided w a → Joined w (negation a) u → Searched es u (Some v) → Searched es w (Some v)
  try_in : {w u t : Assumptions} {r : Option AtomSet} (a : ℕ) → Apart w → FirstJudged w es Open → LowestUndecided w a → Joined w (negation a) u → Searched es u None
      → Joined w (positive a) t → Searched es t r → Searched es w r

-- the trail at the start: as assumed, and out the atoms that no entry names and that need not be in
pub record StartTrail (es : List Entry) (under w : Assumptions) : Type 0 where
  pub within : (a : ℕ) → has w.within a ≡ has under.within a
  pub without : (a : ℕ) → has w.without a ≡ has under.without a || (nat_lt a 64 && not (names es a || has under.within a))

-- what the search answers under assumptions
pub record SearchedFrom (es : List Entry) (under : Assumptions) (r : Option AtomSet) : Type 0 where
  pub trail : Assumptions
  pub started : StartTrail es under trail
  pub found : Searched es trail r
