use Rattle.std.proofs.Common.{◌≡◌, ℕ, false, not, ◌&&◌, ltb, sym, refl, ◌∙◌, subst, arith, rules}
use Rattle.std.proofs.lemmas.Bool.Decides.{nat_tests}
use Rattle.atoms.specs.Assuming.{settled, Joined}
use Rattle.atoms.specs.Sets.{has, LowestIn}
use Rattle.atoms.specs.declared.assumptions.Assumptions.{Assumptions}
use Rattle.atoms.specs.declared.clauses.Literal.{Literal}
use Rattle.atoms.specs.declared.sets.AtomSet.{AtomSet}
use Rattle.search.specs.Searches.{Full, LowestUndecided, clash, conflict, follow, full, try_in, try_out}
use Rattle.search.proofs.AllOut.{out_searched}
use Rattle.search.proofs.Soundness.{first_forces}
use Rattle.search.proofs.searching.+search.Goals as goal

-- the trail that a trial begins with and its literal, by what they are equal to
joined : {u w r : Assumptions} {x y : Literal} → u ≡ w → x ≡ y → Joined u x r → Joined w y r
joined {w = w} {r = r} {x = x} e f j = subst (λ (y : Literal). Joined w y r) f (subst (λ (u : Assumptions). Joined u x r) e j)

-- what the tests told of the trail
all_full : (w : Assumptions) (u : AtomSet) → ((i : ℕ) → has u i ≡ ltb i 64 && not (settled w i)) → ((i : ℕ) → has u i ≡ false) → Full w
all_full w u e none a l = grind (arith, nat_tests, e a, none a)

lowest_open : (w : Assumptions) (u : AtomSet) (a : ℕ) → ((i : ℕ) → has u i ≡ ltb i 64 && not (settled w i)) → LowestIn u a → LowestUndecided w a
lowest_open w u a e k = record {
  small = k.small;
  free = grind (arith, nat_tests, e a, k.member);
  first = λ i l. grind (arith, nat_tests, e i, k.first i, k.small);
}

pub returns-then-clashes : goal.returns-then-clashes
returns-then-clashes t c = record { same = refl; order = clash (sym c.clashes.ensures.answer ∙ c.if-clashes.true) }

pub returns-in-Conflict : goal.returns-in-Conflict
returns-in-Conflict t c =
    record { same = refl; order = conflict (c.clashes.ensures.apart c.if-clashes.false) c.in-Conflict.ensures }

pub begin-trial-requires : goal.begin-trial-requires
begin-trial-requires t c = first_forces c.args.trail.now c.args.entries.now c.in-Forced.literal c.in-Forced.ensures

pub returns-in-Forced : goal.returns-in-Forced
returns-in-Forced t c =
    record {
      same = search rules;
      order = follow c.in-Forced.literal (c.clashes.ensures.apart c.if-clashes.false)
          c.in-Forced.ensures c.begin-trial.ensures.joined c.search.ensures.order;
    }

pub returns-then-all_hold : goal.returns-then-all_hold
returns-then-all_hold t c =
    record {
      same = refl;
      order = out_searched c.args.entries.now c.args.trail.now (c.clashes.ensures.apart c.if-clashes.false) (sym c.all_hold.ensures ∙ c.if-all_hold.true);
    }

pub returns-in_default : goal.returns-in_default
returns-in_default t c =
    record {
      same = refl;
      order = full (c.clashes.ensures.apart c.if-clashes.false) c.in-Open.ensures
          (all_full c.args.trail.now c.undecided.result c.undecided.ensures c.in_default.ensures);
    }

pub returns-in-Some-search : goal.returns-in-Some-search
returns-in-Some-search t c =
    record {
      same = search rules;
      order = try_out c.in-Some.atom (c.clashes.ensures.apart c.if-clashes.false) c.in-Open.ensures
          (lowest_open c.args.trail.now c.undecided.result c.in-Some.atom c.undecided.ensures c.in-Some.ensures)
          (joined refl c.negation.ensures c.begin-trial-in-Open.ensures.joined) c.in-Some-search.ensures.order;
    }

pub returns-in_default-search : goal.returns-in_default-search
returns-in_default-search t c =
    record {
      same = search rules;
      order = try_in c.in-Some.atom (c.clashes.ensures.apart c.if-clashes.false) c.in-Open.ensures
          (lowest_open c.args.trail.now c.undecided.result c.in-Some.atom c.undecided.ensures c.in-Some.ensures)
          (joined refl c.negation.ensures c.begin-trial-in-Open.ensures.joined) c.in_default-search.ensures.order
          (joined (search rules) c.positive.ensures c.begin-trial-in-Open-2.ensures.joined) c.search-in-Open-2.ensures.order;
    }
