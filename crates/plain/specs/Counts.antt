-- Which valuations the plain oracle tries, and which it answers. A valuation is here the number that its bits write.
use Rattle.std.specs.Prelude.{◌≡◌, ℕ, ◌^◌, ◌<◌, ◌≤◌, true, false, List, Some, None, Option}
use Rattle.atoms.specs.Assuming.{is_free}
use Rattle.atoms.specs.Bits.{bit}
use Rattle.atoms.specs.Clauses.{makes_all}
use Rattle.atoms.specs.Sets.{has}
use Rattle.atoms.specs.declared.assumptions.Assumptions.{Assumptions}
use Rattle.atoms.specs.declared.clauses.Entry.{Entry}
use Rattle.atoms.specs.declared.sets.AtomSet.{AtomSet}
use Rattle.oracle.specs.Oracles.{Unsatisfiable}

-- every atom of the one set is in the other
abbrev pub Part : ℕ → ℕ → Type 0
Part u m = (i : ℕ) → bit u i ≡ true → bit m i ≡ true

-- w is the next part of m after the part v
pub record NextPart (v m w : ℕ) : Type 0 where
  pub part : Part w m
  pub more : v < w
  pub least : (u : ℕ) → u < 2 ^ 64 → Part u m → v < u → w ≤ u

-- the valuation is tried: an atom that is not free is as assumed, else out
pub record Tried (es : List Entry) (w : Assumptions) (v : ℕ) : Type 0 where
  pub small : v < 2 ^ 64
  pub others : (a : ℕ) → is_free es w a ≡ false → bit v a ≡ has w.within a

-- the first of the tried valuations that makes every entry true
pub record First (es : List Entry) (w : Assumptions) (v : ℕ) : Type 0 where
  pub tried : Tried es w v
  pub made : makes_all (bit v) es ≡ true
  pub before : (u : ℕ) → u < v → Tried es w u → makes_all (bit u) es ≡ false

-- The answer is the first of them; where no valuation obeys and makes every entry true there is none.
abbrev pub Counted : List Entry → Assumptions → Option AtomSet → Type 0
Counted es w (Some s) = First es w s.bits
Counted es w None = Unsatisfiable w es
