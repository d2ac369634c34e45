-- A valuation matters to the entries only on the free atoms.
use Rattle.std.proofs.Common.{◌≡◌, Bool, true, false, cond, not, ◌&&◌, ◌||◌, List, sym, refl}
use Rattle.std.proofs.lemmas.Bool.{both_ways}
use Rattle.atoms.specs.Assuming.{is_free}
use Rattle.atoms.specs.Clauses.{Valuation, makes_all, names}
use Rattle.atoms.specs.Sets.{has}
use Rattle.atoms.specs.declared.assumptions.Assumptions.{Assumptions}
use Rattle.atoms.specs.declared.clauses.Entry.{Entry}
use Rattle.atoms.proofs.Making.{agree_all}
use Rattle.atoms.proofs.Obeying.{Follows}

-- the valuation on the free atoms; any other is as assumed, else out
abbrev pub restricted : List Entry → Assumptions → Valuation → Valuation
restricted es w v i = cond (is_free es w i) (v i) (has w.within i)

pub restricted_all : (es : List Entry) (w : Assumptions) (v : Valuation) → Follows v w → makes_all v es ≡ true → makes_all (restricted es w v) es ≡ true
restricted_all es w v f m = agree_all es (restricted es w v) v (λ i n _. same (names es i) (has w.within i) (has w.without i) (v i) n (f.ins i) (f.outs i)) m
  where
    same : (n a o v : Bool) → n ≡ true → (a ≡ true → v ≡ true) → (o ≡ true → v ≡ false) → cond (n && not (a || o)) v a ≡ v
    same true true o v e i u = sym (i refl)
    same true false true v e i u = sym (u refl)
    same true false false v e i u = refl
    same false a o v e i u = absurd (both_ways _ refl e)
