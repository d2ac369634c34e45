use Rattle.std.proofs.Common.{◌≡◌, ℕ, ◌<◌, true, false, not, ◌&&◌, ◌||◌, eqb, ltb, List, Some, None, Option, arith}
use Rattle.std.proofs.lemmas.Bool.Decides.{nat_tests}
use Rattle.atoms.specs.Sets.{has}
use Rattle.atoms.specs.declared.clauses.Entry.{Entry}
use Rattle.atoms.specs.declared.sets.AtomSet.{AtomSet}
use Rattle.exhaustive.specs.Exhausts.{FindsAmong}
use Rattle.exhaustive.proofs.Varying.{wider, neither}
use Rattle.exhaustive.proofs.+find.Goals as goal

-- the base with the atom in, and with it out
in_other : (base to : AtomSet) (a : ℕ) → ((i : ℕ) → has to i ≡ has base i || (eqb a i && ltb i 64)) → (i : ℕ) → (i ≡ a → ⊥) → has to i ≡ has base i
in_other base to a e i ne = grind (arith, nat_tests, e i, ne)

in_here : (base to : AtomSet) (a : ℕ) → a < 64 → ((i : ℕ) → has to i ≡ has base i || (eqb a i && ltb i 64)) → has to a ≡ true
in_here base to a l e = grind (arith, nat_tests, e a)

out_other : (base to : AtomSet) (a : ℕ) → ((i : ℕ) → has to i ≡ has base i && not (eqb a i)) → (i : ℕ) → (i ≡ a → ⊥) → has to i ≡ has base i
out_other base to a e i ne = grind (arith, nat_tests, e i, ne)

out_here : (base to : AtomSet) (a : ℕ) → ((i : ℕ) → has to i ≡ has base i && not (eqb a i)) → has to a ≡ false
out_here base to a e = grind (arith, nat_tests, e a)

-- what the second half finds
second : (es : List Entry) (free base rest ins outs : AtomSet) (a : ℕ) (r : Option AtomSet) → a < 64 → has free a ≡ true → ((i : ℕ) → has rest i ≡ has free i && not (eqb a i))
    → ((i : ℕ) → has ins i ≡ has base i || (eqb a i && ltb i 64)) → ((i : ℕ) → has outs i ≡ has base i && not (eqb a i)) → FindsAmong es rest ins None → FindsAmong es rest outs r → FindsAmong es free base r
second es free base rest ins outs a None l own less i o f g =
    neither free base rest a less es ins outs (in_other base ins a i) (in_here base ins a l i) (out_other base outs a o) (out_here base outs a o) f g
second es free base rest ins outs a (Some s) l own less i o f g = record { varies = wider free base rest a less outs s own (out_other base outs a o) g.varies; made = g.made }

pub returns-in-None : goal.returns-in-None
returns-in-None t c =
    second c.args.entries.now c.args.free c.args.base c.remove-rest.result c.insert.result c.remove.result c.in-Some.atom c.find-in-None.result
    c.in-Some.ensures.small c.in-Some.ensures.member c.remove-rest.ensures.rest c.insert.ensures.atoms c.remove.ensures.rest c.in-None.ensures c.find-in-None.ensures
