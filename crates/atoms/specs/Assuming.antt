-- Sets of assumed literals, and the valuations that obey them.
use Rattle.std.specs.Prelude.{◌≡◌, ℕ, Bool, true, false, cond, not, ◌&&◌, ◌||◌, List, ◌==◌, ◌≢◌, nat_lt}
use Rattle.atoms.specs.Clauses.{Valuation, obeys_one, names}
use Rattle.atoms.specs.Sets.{has, some_below}
use Rattle.atoms.specs.declared.assumptions.Assumptions.{Assumptions}
use Rattle.atoms.specs.declared.clauses.Entry.{Entry}
use Rattle.atoms.specs.declared.clauses.Literal.{Literal}

-- is the literal among those assumed
abbrev pub assumes : Assumptions → Literal → Bool
assumes w x = cond x.holds (has w.within x.atom) (has w.without x.atom)

-- the valuation makes every assumed literal true
abbrev pub Obeys : Valuation → Assumptions → Type 0
Obeys v w = (x : Literal) → assumes w x ≡ true → obeys_one v x ≡ true

-- every literal of the first is one of the second
abbrev pub PartOf : Assumptions → Assumptions → Type 0
PartOf c w = (x : Literal) → assumes c x ≡ true → assumes w x ≡ true

-- must an atom be both in and out
abbrev pub clashing : Assumptions → Bool
clashing w = some_below 64 (λ a. has w.within a && has w.without a)

-- no atom must be both in and out
abbrev pub Apart : Assumptions → Type 0
Apart w = (a : ℕ) → has w.within a && has w.without a ≡ false

-- must the atom be in or out
abbrev pub settled : Assumptions → ℕ → Bool
settled w a = has w.within a || has w.without a

-- is the atom named by an entry, and nothing assumed on it
abbrev pub is_free : List Entry → Assumptions → ℕ → Bool
is_free es w a = names es a && not (settled w a)

-- r is w with the literal x, if its number is an atom
pub record Joined (w : Assumptions) (x : Literal) (r : Assumptions) : Type 0 where
  pub ins : (i : ℕ) → has r.within i ≡ has w.within i || (x.holds && (x.atom == i && nat_lt i 64))
  pub outs : (i : ℕ) → has r.without i ≡ has w.without i || (not x.holds && (x.atom == i && nat_lt i 64))

-- r is w without the literal x
pub record Dropped (w : Assumptions) (x : Literal) (r : Assumptions) : Type 0 where
  pub gone : assumes r x ≡ false
  pub rest : (y : Literal) → (y ≢ x) → assumes r y ≡ assumes w y
