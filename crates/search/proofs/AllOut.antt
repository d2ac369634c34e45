-- Why the search answers the atoms that are in as soon as these make every entry true: no literal that it would follow
-- or try first puts one more in.
use Rattle.std.proofs.Common.{◌≡◌, ◌≢◌, ℕ, zero, suc, ◌^◌, ◌<◌, Bool, true, false, not, ◌&&◌, ◌||◌, eqb, ◌⊎◌, inl, inr, List, [], ◌∷◌, Some, refl, ap, ◌∙◌, arith, bit_or}
use Rattle.std.proofs.lemmas.Bool.{both_ways, and_parts, eqb-true}
use Rattle.std.proofs.lemmas.Bool.Decides.{nat_tests}
use Rattle.atoms.specs.Assuming.{Apart, settled, Joined}
use Rattle.atoms.specs.Clauses.{makes, makes_at, makes_all, negation}
use Rattle.atoms.specs.Sets.{has, some_below}
use Rattle.atoms.specs.declared.assumptions.Assumptions.{Assumptions}
use Rattle.atoms.specs.declared.clauses.Clause.{Clause}
use Rattle.atoms.specs.declared.clauses.Entry.{Entry}
use Rattle.atoms.specs.declared.clauses.Literal.{Literal}
use Rattle.atoms.proofs.Below.{some_where, none_at}
use Rattle.atoms.proofs.Making.{makes_where}
use Rattle.atoms.proofs.Members.{has_or, has_one}
use Rattle.search.specs.Judging.{trail_makes_at, undecided_at, Judged, FirstJudged, none, here, later}
use Rattle.search.specs.Searches.{Searched, follow, full, try_out, LowestUndecided, undecided_in}
use Rattle.search.specs.declared.status.Status.{Status}
use Rattle.search.specs.declared.status.Status.TheVariants.{Forced, Open}
use Rattle.search.proofs.Clausewise.{leaves_met}
use Rattle.search.proofs.Soundness.{undecided_less, first_forces}

-- the trail with one atom more out
abbrev put_out : Assumptions → ℕ → Assumptions
put_out w a = record { within = w.within; without = record { bits = bit_or w.without.bits (2 ^ a) } }

out_has : (w : Assumptions) (a i : ℕ) → has (put_out w a).without i ≡ has w.without i || eqb a i
out_has w a i = has_or w.without.bits (2 ^ a) i ∙ ap (λ (b : Bool). has w.without i || b) (has_one a i)

out_joined : (w : Assumptions) (a : ℕ) → a < 64 → Joined w (negation a) (put_out w a)
out_joined w a l = record { ins = λ i. grind (arith, nat_tests); outs = λ i. grind (arith, nat_tests, out_has w a i) }

out_apart : (w : Assumptions) (a : ℕ) → settled w a ≡ false → Apart w → Apart (put_out w a)
out_apart w a free apart i = grind (arith, nat_tests, apart i, out_has w a i)

-- what is judged is open, or forces an atom out
abbrev OpenOrOut : (Status → Type 0) → Type 0
OpenOrOut judged = judged Open ⊎ ((a : ℕ) × judged (Forced (negation a)))

-- has the clause at b a true literal, or an undecided one that is not atom a out
abbrev besides : Assumptions → Clause → ℕ → ℕ → Bool
besides w c a b = trail_makes_at w c b || (undecided_at w c.plain b || (undecided_at w c.negated b && not (eqb a b)))

-- where an undecided atom's negation is in the clause, it is forced, or another literal leaves the clause open
negated_out : (w : Assumptions) (c : Clause) (a : ℕ) → a < 64 → undecided_at w c.negated a ≡ true → OpenOrOut (Judged w c)
negated_out w c a l o = at (some_below 64 (besides w c a)) refl
  where
    at : (b : Bool) → some_below 64 (besides w c a) ≡ b → OpenOrOut (Judged w c)
    at true e =
        let (b, lb, q) = some_where 64 (besides w c a) e in
        inl (record {
          conflict = λ k. both_ways _ (k.negated a l) o;
          forced = λ x k. grind (arith, nat_tests, k.negated a l, k.untrue b lb, k.plain b lb, k.negated b lb);
        })
    at false e =
        let n : (b : ℕ) → b < 64 → besides w c a b ≡ false = none_at 64 (besides w c a) e in
        inr (
          a,
          record {
            small = l;
            untrue = λ b lb. grind (arith, nat_tests, n b lb);
            plain = λ b lb. grind (arith, nat_tests, n b lb);
            negated = λ b lb. grind (arith, nat_tests, n b lb);
          },
        )

-- a clause that is true with the undecided atoms out is open, or forces one of them out
clause_out : (w : Assumptions) (c : Clause) → makes (has w.within) c ≡ true → OpenOrOut (Judged w c)
clause_out w c m = let (a, l, q) = makes_where (has w.within) c m in at (trail_makes_at w c a) a refl l q
  where
    at : (b : Bool) (a : ℕ) → trail_makes_at w c a ≡ b → a < 64 → makes_at (has w.within) c a ≡ true → OpenOrOut (Judged w c)
    at true a e l q = inl (leaves_met w c (λ h. both_ways _ (h a l) e))
    at false a e l q = negated_out w c a l (grind (arith, nat_tests))

not_open : (x : Literal) → Forced x ≢ Open
not_open x q = let z : ◌≡◌ {A = ℕ} 0 1 = cc in omega arith

-- so does the first clause that is not open
first_out : (w : Assumptions) (es : List Entry) → makes_all (has w.within) es ≡ true → OpenOrOut (FirstJudged w es)
first_out w [] m = inl none
first_out w (e ∷ es) m =
    let p = and_parts (makes (has w.within) e.clause) (makes_all (has w.within) es) m in
    at (clause_out w e.clause p.0) (first_out w es p.1)
  where
    at : OpenOrOut (Judged w e.clause) → OpenOrOut (FirstJudged w es)
        → OpenOrOut (FirstJudged w (e ∷ es))
    at (inl k) (inl r) = inl (later k r)
    at (inl k) (inr r) = inr (r.0, later k r.1)
    at (inr k) r = inr (k.0, here (not_open (negation k.0)) k.1)

-- the lowest undecided atom, if one below the bound is undecided
lowest_below : (n : ℕ) (w : Assumptions) → n < 65 → ((a : ℕ) → a < n → settled w a ≡ true) ⊎ ((a : ℕ) × LowestUndecided w a)
lowest_below zero w l = inl (λ a h. absurd (let z : ⊥ = omega arith in z))
lowest_below (suc n) w l = at (lowest_below n w (omega arith)) (settled w n) refl
  where
    at : ((a : ℕ) → a < n → settled w a ≡ true) ⊎ ((a : ℕ) × LowestUndecided w a) → (b : Bool) → settled w n ≡ b → ((a : ℕ) → a < suc n → settled w a ≡ true) ⊎ ((a : ℕ) × LowestUndecided w a)
    at (inr low) b e = inr low
    at (inl all) true e = inl (λ a h. one a h (eqb a n) refl)
      where
        one : (a : ℕ) → a < suc n → (c : Bool) → eqb a n ≡ c → settled w a ≡ true
        one a h true q = ap (λ (i : ℕ). settled w i) (eqb-true a n q) ∙ e
        one a h false q = all a (grind (arith, nat_tests))
    at (inl all) false e = inr (n, record { small = omega arith; free = e; first = all })

out_within : (n : ℕ) (es : List Entry) (w : Assumptions) → undecided_in w < n → Apart w → makes_all (has w.within) es ≡ true → Searched es w (Some w.within)
out_within zero es w l apart m = absurd (let z : ⊥ = omega arith in z)
out_within (suc n) es w l apart m =
    by (first_out w es m) (λ a small free.
    let less = undecided_less w (put_out w a) (negation a) small (out_joined w a small) free in
    out_within n es (put_out w a) (omega arith) (out_apart w a free apart) m)
  where
    by : OpenOrOut (FirstJudged w es) → ((a : ℕ) → a < 64 → settled w a ≡ false → Searched es (put_out w a) (Some w.within)) → Searched es w (Some w.within)
    by (inl j) rest = elim (lowest_below 64 w (omega arith)) [ inl all ↦ full apart j all | inr low ↦ try_out low.0 apart j low.1 (out_joined w low.0 low.1.small) (rest low.0 low.1.small low.1.free) ]
    by (inr f) rest =
        let k = first_forces w es (negation f.0) f.1 in
        follow (negation f.0) apart f.1 (out_joined w f.0 k.0) (rest f.0 k.0 k.1)

-- with the undecided atoms out the search answers those that are in, where these make every entry true
pub out_searched : (es : List Entry) (w : Assumptions) → Apart w → makes_all (has w.within) es ≡ true → Searched es w (Some w.within)
out_searched es w apart m = out_within (suc (undecided_in w)) es w (omega arith) apart m
