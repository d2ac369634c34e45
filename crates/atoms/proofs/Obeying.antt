-- Valuations that obey assumptions, by the atoms that must be in and those that must be out.
use Rattle.std.proofs.Common.{◌≡◌, ℕ, ◌^◌, ◌<◌, Bool, true, false, cond, not, ◌&&◌, ◌||◌, eqb, ltb, sym, refl, ap, ◌∙◌, eqb-true, arith}
use Rattle.std.proofs.lemmas.Bool.{or_left, and_parts, not-true, both_ways}
use Rattle.std.proofs.lemmas.Bool.Decides.{nat_tests}
use Rattle.atoms.specs.Assuming.{Obeys, clashing, settled, Joined}
use Rattle.atoms.specs.Clauses.{Valuation, obeys_one}
use Rattle.atoms.specs.Sets.{has}
use Rattle.atoms.specs.declared.assumptions.Assumptions.{Assumptions}
use Rattle.atoms.specs.declared.clauses.Literal.{Literal}
use Rattle.atoms.specs.declared.sets.AtomSet.{AtomSet}
use Rattle.atoms.proofs.Below.{some_none}
use Rattle.atoms.proofs.Members.{has_high}

-- the valuation has in it the atoms that must be in, and none that must be out
pub record Follows (v : Valuation) (w : Assumptions) : Type 0 where
  pub ins : (i : ℕ) → has w.within i ≡ true → v i ≡ true
  pub outs : (i : ℕ) → has w.without i ≡ true → v i ≡ false

pub obeys_follows : (v : Valuation) (w : Assumptions) → Obeys v w → Follows v w
obeys_follows v w o = record {
  ins = λ i h. o (record { atom = i; holds = true }) h;
  outs = λ i h. not-true (v i) (o (record { atom = i; holds = false }) h);
}

pub follows_obeys : (v : Valuation) (w : Assumptions) → Follows v w → Obeys v w
follows_obeys v w f x = at x.holds x.atom
  where
    at : (h : Bool) (a : ℕ) → cond h (has w.within a) (has w.without a) ≡ true → cond h (v a) (not (v a)) ≡ true
    at true a e = f.ins a e
    at false a e = ap not (f.outs a e)

-- no valuation follows assumptions that clash
pub clash_never : (w : Assumptions) → clashing w ≡ true → (v : Valuation) → Follows v w → ⊥
clash_never w e v f = both_ways _ (some_none 64 (λ a. has w.within a && has w.without a) (λ i _. by (has w.within i) (has w.without i) (v i) (f.ins i) (f.outs i))) e
  where
    by : (a o v : Bool) → (a ≡ true → v ≡ true) → (o ≡ true → v ≡ false) → (a && o) ≡ false
    by true true v i u = absurd (both_ways _ (u refl) (i refl))
    by true false v i u = refl
    by false o v i u = refl

-- the atoms of a set that are among the undecided ones, which are all below 64
pub undecided_of : (w : Assumptions) (s u r : AtomSet) → s.bits < 2 ^ 64 → ((i : ℕ) → has u i ≡ ltb i 64 && not (settled w i)) → ((i : ℕ) → has r i ≡ has s i && has u i)
    → (i : ℕ) → has r i ≡ has s i && not (settled w i)
undecided_of w s u r fits a b i = grind (arith, nat_tests, has_high 64 s.bits i fits, a i, b i)

-- one literal more
pub follows_less : (w r : Assumptions) (x : Literal) (v : Valuation) → Joined w x r → Follows v r → Follows v w
follows_less w r x v j f = record {
  ins = λ i h. f.ins i (j.ins i ∙ or_left (has w.within i) _ h);
  outs = λ i h. f.outs i (j.outs i ∙ or_left (has w.without i) _ h);
}

pub follows_more : (w r : Assumptions) (x : Literal) (v : Valuation) → Joined w x r → Follows v w → obeys_one v x ≡ true → Follows v r
follows_more w r x v j f o = record {
  ins = λ i h. pick_in (has w.within i) x.holds i (sym (j.ins i) ∙ h) (f.ins i) o;
  outs = λ i h. pick_out (has w.without i) x.holds i (sym (j.outs i) ∙ h) (f.outs i) o;
}
  where
    same : (i : ℕ) → (eqb x.atom i && ltb i 64) ≡ true → v i ≡ v x.atom
    same i e = ap v (sym (eqb-true x.atom i (and_parts (eqb x.atom i) (ltb i 64) e).0))

    pick_in : (a h : Bool) (i : ℕ) → (a || (h && (eqb x.atom i && ltb i 64))) ≡ true → (a ≡ true → v i ≡ true) → cond h (v x.atom) (not (v x.atom)) ≡ true → v i ≡ true
    pick_in true h i s g o = g refl
    pick_in false true i s g o = same i s ∙ o
    pick_in false false i s g o = absurd (both_ways _ refl s)

    pick_out : (a h : Bool) (i : ℕ) → (a || (not h && (eqb x.atom i && ltb i 64))) ≡ true → (a ≡ true → v i ≡ false) → cond h (v x.atom) (not (v x.atom)) ≡ true → v i ≡ false
    pick_out true h i s g o = g refl
    pick_out false true i s g o = absurd (both_ways _ refl s)
    pick_out false false i s g o = same i s ∙ not-true (v x.atom) o
