-- What a trail tells of a clause under the valuations that follow it.
use Rattle.std.proofs.Common.{◌≡◌, ℕ, ◌<◌, ◌≤◌, Bool, true, false, cond, not, ◌&&◌, eqb, refl, ap, ◌∙◌, arith}
use Rattle.std.proofs.lemmas.Bool.{both_ways}
use Rattle.std.proofs.lemmas.Bool.Decides.{nat_tests}
use Rattle.atoms.specs.Assuming.{Apart, settled}
use Rattle.atoms.specs.Clauses.{Valuation, obeys_one, makes}
use Rattle.atoms.specs.Sets.{has}
use Rattle.atoms.specs.declared.assumptions.Assumptions.{Assumptions}
use Rattle.atoms.specs.declared.clauses.Clause.{Clause}
use Rattle.atoms.specs.declared.clauses.Literal.{Literal}
use Rattle.atoms.specs.declared.sets.AtomSet.{AtomSet}
use Rattle.atoms.proofs.Making.{makes_none, unmade}
use Rattle.atoms.proofs.Obeying.{Follows}
use Rattle.search.specs.Judging.{trail_makes_at, undecided_at, Conflicts, Forces, LeavesOpen}
use Rattle.search.specs.Searches.{Full}

-- a clause that the trail makes false is false under every valuation that follows the trail
pub conflicts_false : (w : Assumptions) (c : Clause) → Conflicts w c → (v : Valuation) → Follows v w → makes v c ≡ true → ⊥
conflicts_false w c k v f e = both_ways _ (makes_none v c (λ i l. grind (arith, nat_tests, k.untrue i, k.plain i, k.negated i, f.ins i, f.outs i))) e

-- a forced literal is true under every valuation that follows the trail and makes the clause true
pub forces_true : (w : Assumptions) (c : Clause) (x : Literal) → Forces w c x → (v : Valuation) → Follows v w → makes v c ≡ true → obeys_one v x ≡ true
forces_true w c x k v f e = at (obeys_one v x) refl
  where
    at : (b : Bool) → obeys_one v x ≡ b → obeys_one v x ≡ true
    at true q = q
    at false q = absurd (both_ways _ (makes_none v c (λ i l. grind (arith, nat_tests, k.untrue i, k.plain i, k.negated i, f.ins i, f.outs i, q))) e)

-- the atom of a forced literal is undecided
pub forces_free : (w : Assumptions) (c : Clause) (x : Literal) → Forces w c x → settled w x.atom ≡ false
forces_free w c x k = grind (arith, nat_tests, k.small, k.plain x.atom, k.negated x.atom)

-- when every atom is decided, a clause that the trail does not make false is true under it
pub leaves_true : (w : Assumptions) (c : Clause) → Apart w → Full w → LeavesOpen w c → makes (has w.within) c ≡ true
leaves_true w c apart full k = at (makes (has w.within) c) refl
  where
    at : (b : Bool) → makes (has w.within) c ≡ b → makes (has w.within) c ≡ true
    at true q = q
    at false q = absurd (k.conflict (record {
      untrue = λ a l. grind (arith, nat_tests, apart a, unmade (has w.within) c q a l);
      plain = λ a l. grind (arith, nat_tests, full a l);
      negated = λ a l. grind (arith, nat_tests, full a l);
    }))

-- how the code comes to each: a set with no member below 64 is empty
pub all_out : (t : ℕ → Bool) (r : Bool) → ((i : ℕ) → 64 ≤ i → t i ≡ false) → (((i : ℕ) → t i ≡ false) → r ≡ true) → r ≡ false → ((a : ℕ) → a < 64 → t a ≡ false) → ⊥
all_out t r high some e none = both_ways _ e (some (λ i. grind (arith, nat_tests, high i, none i)))

-- a true literal leaves the clause open
pub leaves_met : (w : Assumptions) (c : Clause) → (((a : ℕ) → a < 64 → trail_makes_at w c a ≡ false) → ⊥) → LeavesOpen w c
leaves_met w c m = record { conflict = λ k. m k.untrue; forced = λ x k. m k.untrue }

-- undecided literals of both signs
pub leaves_both : (w : Assumptions) (c : Clause) → (((a : ℕ) → a < 64 → undecided_at w c.plain a ≡ false) → ⊥) → (((a : ℕ) → a < 64 → undecided_at w c.negated a ≡ false) → ⊥) → LeavesOpen w c
leaves_both w c p n = record { conflict = λ k. p k.plain; forced = λ x k. by x.holds x k refl }
  where
    none : (b : Bool) (x : Literal) (a : ℕ) → b ≡ false → b && eqb x.atom a ≡ false
    none b x a e = ap (λ (y : Bool). y && eqb x.atom a) e

    by : (h : Bool) (x : Literal) → Forces w c x → x.holds ≡ h → ⊥
    by true x k e = n (λ a l. k.negated a l ∙ none (not x.holds) x a (ap not e))
    by false x k e = p (λ a l. k.plain a l ∙ none x.holds x a e)

-- the atoms that the clause has with the sign
abbrev pub signed : Bool → Clause → AtomSet
signed b c = cond b c.plain c.negated

-- more than one undecided literal of one sign
pub leaves_many : (b : Bool) (w : Assumptions) (c : Clause) → (((a : ℕ) → a < 64 → undecided_at w (signed b c) a ≡ false) → ⊥)
    → ((y : ℕ) → y < 64 → ((a : ℕ) → a < 64 → undecided_at w (signed b c) a ≡ eqb y a) → ⊥) → LeavesOpen w c
leaves_many b w c some many = record { conflict = λ k. some (closed b k); forced = λ x k. by (cond b x.holds (not x.holds)) x k refl }
  where
    closed : (b : Bool) → Conflicts w c → (a : ℕ) → a < 64 → undecided_at w (signed b c) a ≡ false
    closed true k = k.plain
    closed false k = k.negated

    sole : (b : Bool) (x : Literal) → Forces w c x → (a : ℕ) → a < 64 → undecided_at w (signed b c) a ≡ cond b x.holds (not x.holds) && eqb x.atom a
    sole true x k = k.plain
    sole false x k = k.negated

    by : (h : Bool) (x : Literal) → Forces w c x → cond b x.holds (not x.holds) ≡ h → ⊥
    by true x k e = many x.atom k.small (λ a l. sole b x k a l ∙ ap (λ (y : Bool). y && eqb x.atom a) e)
    by false x k e = some (λ a l. sole b x k a l ∙ ap (λ (y : Bool). y && eqb x.atom a) e)
