-- Why no valuation is missed.
use Rattle.std.proofs.Common.{◌≡◌, ℕ, Bool, true, false, not, ◌&&◌, eqb, List, Some, None, Option, refl, arith}
use Rattle.std.proofs.lemmas.Bool.Decides.{nat_tests}
use Rattle.atoms.specs.Assuming.{Apart, is_free}
use Rattle.atoms.specs.Clauses.{Valuation}
use Rattle.atoms.specs.Sets.{has}
use Rattle.atoms.specs.declared.assumptions.Assumptions.{Assumptions}
use Rattle.atoms.specs.declared.clauses.Entry.{Entry}
use Rattle.atoms.specs.declared.sets.AtomSet.{AtomSet}
use Rattle.atoms.proofs.Obeying.{obeys_follows, follows_obeys}
use Rattle.atoms.proofs.Restricting.{restricted, restricted_all}
use Rattle.oracle.specs.Oracles.{Satisfies, Unsatisfiable, Finds}
use Rattle.exhaustive.specs.Exhausts.{Varies, Made, FindsAmong}

module _ (free base rest : AtomSet) (a : ℕ) (less : (i : ℕ) → has rest i ≡ has free i && not (eqb a i)) where
  -- one free atom less, by how the atom is set
  pub narrower : (b : Bool) (to : AtomSet) (v : Valuation) → ((i : ℕ) → (i ≡ a → ⊥) → has to i ≡ has base i) → has to a ≡ b → v a ≡ b → Varies free base v → Varies rest to v
  narrower b to v same here e h i out = grind (arith, nat_tests, less i, same i, h i)

  pub wider : (to s : AtomSet) → has free a ≡ true → ((i : ℕ) → (i ≡ a → ⊥) → has to i ≡ has base i) → Varies rest to (has s) → Varies free base (has s)
  wider to s own same h i out = grind (arith, nat_tests, less i, same i, h i)

  -- neither way of setting the atom finds one
  pub neither : (es : List Entry) (ins outs : AtomSet) → ((i : ℕ) → (i ≡ a → ⊥) → has ins i ≡ has base i) → has ins a ≡ true → ((i : ℕ) → (i ≡ a → ⊥) → has outs i ≡ has base i) → has outs a ≡ false
      → FindsAmong es rest ins None → FindsAmong es rest outs None → FindsAmong es free base None
  neither es ins outs si hi so ho f g v h m = at (v a) refl
    where
      at : (b : Bool) → v a ≡ b → ⊥
      at true q = f v (narrower true ins v si hi q h) m
      at false q = g v (narrower false outs v so ho q h) m

-- the valuation that is as assumed, but for its own free atoms
pub complete : (es : List Entry) (w : Assumptions) (free : AtomSet) → ((i : ℕ) → has free i ≡ is_free es w i) → FindsAmong es free w.within None → Unsatisfiable w es
complete es w free e none v o m =
    none (restricted es w v) (λ i h. grind (arith, nat_tests, e i)) (restricted_all es w v (obeys_follows v w o) m)

-- what is found obeys
pub found : (es : List Entry) (w : Assumptions) (free s : AtomSet) → Apart w → ((i : ℕ) → has free i ≡ is_free es w i)
    → Made es free w.within s → Satisfies es w (has s)
found es w free s apart e k = record {
  obeyed = follows_obeys (has s) w (record {
    ins = λ i h. grind (arith, nat_tests, k.varies i, e i);
    outs = λ i h. grind (arith, nat_tests, k.varies i, e i, apart i);
  });
  made = k.made;
}

-- what trying every valuation finds
pub finds : (es : List Entry) (w : Assumptions) (free : AtomSet) (r : Option AtomSet) → Apart w
    → ((i : ℕ) → has free i ≡ is_free es w i) → FindsAmong es free w.within r → Finds es w r
finds es w free None apart e f = complete es w free e f
finds es w free (Some s) apart e f = found es w free s apart e f
