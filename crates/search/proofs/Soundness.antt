-- Why the answers of the search are right.
use Rattle.std.proofs.Common.{◌≡◌, ℕ, ◌<◌, Bool, true, false, not, List, ◌∷◌, Some, None, Option, refl, ap, ◌∙◌, subst, arith}
use Rattle.std.proofs.lemmas.Bool.{and_from, or_left, and_parts}
use Rattle.std.proofs.lemmas.Bool.Decides.{nat_tests}
use Rattle.atoms.specs.Assuming.{Apart, Obeys, settled, Joined}
use Rattle.atoms.specs.Clauses.{Valuation, obeys_one, makes, makes_all, positive, negation}
use Rattle.atoms.specs.Sets.{has}
use Rattle.atoms.specs.declared.assumptions.Assumptions.{Assumptions}
use Rattle.atoms.specs.declared.clauses.Entry.{Entry}
use Rattle.atoms.specs.declared.clauses.Literal.{Literal}
use Rattle.atoms.specs.declared.sets.AtomSet.{AtomSet}
use Rattle.atoms.proofs.Counts.{count_less}
use Rattle.atoms.proofs.Obeying.{Follows, obeys_follows, follows_obeys, clash_never, follows_less, follows_more}
use Rattle.atoms.proofs.Restricting.{restricted, restricted_all}
use Rattle.oracle.specs.Oracles.{Finds, Satisfies, Unsatisfiable}
use Rattle.search.specs.Judging.{FirstJudged, none, here, later, Judged, Forces}
use Rattle.search.specs.Searches.{Searched, clash, conflict, follow, full, try_in, try_out, StartTrail, SearchedFrom, Full, undecided_in}
use Rattle.search.specs.declared.status.Status.{Status}
use Rattle.search.specs.declared.status.Status.TheVariants.{Conflict, Forced, Open}
use Rattle.search.proofs.Clausewise.{conflicts_false, forces_true, forces_free, leaves_true}

-- one atom more decided, and one less is left
pub undecided_less : (w u : Assumptions) (x : Literal) → x.atom < 64 → Joined w x u → settled w x.atom ≡ false → undecided_in u < undecided_in w
undecided_less w u x l j s =
    let e = count_less 64 (λ a. not (settled u a)) (λ a. not (settled w a)) x.atom (λ i. grind (arith, nat_tests, j.ins i, j.outs i, l)) l (ap not s) in
    omega arith

-- what a trail tells of the valuations that follow it and make every entry true, and of itself
Tells : Assumptions → List Entry → Status → Type 0
Tells w es s = elim s [
  | Conflict ↦ (v : Valuation) → Follows v w → makes_all v es ≡ true → ⊥
  | Forced x ↦ (v : Valuation) → Follows v w → makes_all v es ≡ true → obeys_one v x ≡ true
  | Open ↦ Apart w → Full w → makes_all (has w.within) es ≡ true
]

first_tells : {w : Assumptions} {es : List Entry} {s : Status} → FirstJudged w es s → Tells w es s
unfolding Tells
first_tells none = λ apart all. refl
first_tells {w = w} (here {e = e} {es = es} {s = s} ne j) = at s ne j
  where
    at : (s : Status) → (s ≡ Open → ⊥) → Judged w e.clause s → Tells w (e ∷ es) s
    at Conflict ne j = λ v f m. conflicts_false w e.clause j v f (and_parts (makes v e.clause) (makes_all v es) m).0
    at (Forced x) ne j = λ v f m. forces_true w e.clause x j v f (and_parts (makes v e.clause) (makes_all v es) m).0
    at Open ne j = absurd (ne refl)
first_tells {w = w} (later {e = e} {es = es} {s = s} j r) = at s (first_tells r)
  where
    at : (s : Status) → Tells w es s → Tells w (e ∷ es) s
    at Conflict t = λ v f m. t v f (and_parts (makes v e.clause) (makes_all v es) m).1
    at (Forced x) t = λ v f m. t v f (and_parts (makes v e.clause) (makes_all v es) m).1
    at Open t = λ apart all. and_from (makes (has w.within) e.clause) (makes_all (has w.within) es) (leaves_true w e.clause apart all j) (t apart all)

-- the literal that the entries force is of an undecided atom
pub first_forces : (w : Assumptions) (es : List Entry) (x : Literal) → FirstJudged w es (Forced x) → (x.atom < 64) × (settled w x.atom ≡ false)
first_forces w es x j = at j refl
  where
    at : {es : List Entry} {s : Status} → FirstJudged w es s → s ≡ Forced x → (x.atom < 64) × (settled w x.atom ≡ false)
    at none e = absurd (let z : ◌≡◌ {A = ℕ} 0 1 = cc in let y : ⊥ = omega arith in y)
    at (here {e = d} ne j) e = own d (subst (λ (s : Status). Judged w d.clause s) e j)
      where
        own : (d : Entry) → Forces w d.clause x → (x.atom < 64) × (settled w x.atom ≡ false)
        own d k = (k.small, forces_free w d.clause x k)
    at (later j r) e = at r e

-- what is found under one literal more is found
found_less : (es : List Entry) (w u : Assumptions) (x : Literal) (s : AtomSet) → Joined w x u → Satisfies es u (has s) → Satisfies es w (has s)
found_less es w u x s j f = record {
  obeyed = follows_obeys (has s) w (follows_less w u x (has s) j (obeys_follows (has s) u f.obeyed));
  made = f.made;
}

found_forced : (es : List Entry) (w u : Assumptions) (x : Literal) (r : Option AtomSet) → Joined w x u
    → ((v : Valuation) → Follows v w → makes_all v es ≡ true → obeys_one v x ≡ true) → Finds es u r → Finds es w r
found_forced es w u x (Some s) j t f = found_less es w u x s j f
found_forced es w u x None j t f = λ v o m. let g = obeys_follows v w o in f v (follows_obeys v u (follows_more w u x v j g (t v g m))) m

-- where both trials of an atom find nothing there is nothing
found_both : (es : List Entry) (w u t : Assumptions) (a : ℕ) (r : Option AtomSet) → Joined w (negation a) u → Joined w (positive a) t → Unsatisfiable u es → Finds es t r → Finds es w r
found_both es w u t a (Some s) ju jt f g = found_less es w t (positive a) s jt g
found_both es w u t a None ju jt f g = λ v o m. at v (obeys_follows v w o) m (v a) refl
  where
    at : (v : Valuation) → Follows v w → makes_all v es ≡ true → (b : Bool) → v a ≡ b → ⊥
    at v h m false e = f v (follows_obeys v u (follows_more w u (negation a) v ju h (ap not e))) m
    at v h m true e = g v (follows_obeys v t (follows_more w t (positive a) v jt h e)) m

-- when all is decided the trail is the valuation
found_full : (es : List Entry) (w : Assumptions) → Apart w → makes_all (has w.within) es ≡ true → Satisfies es w (has w.within)
found_full es w apart m = record {
  obeyed = follows_obeys (has w.within) w (record { ins = λ i h. h; outs = λ i h. grind (arith, nat_tests, apart i) });
  made = m;
}

-- The answer of a search is right: a valuation that obeys and makes every entry true, or there is none.
pub searched_finds : {es : List Entry} {w : Assumptions} {r : Option AtomSet} → Searched es w r → Finds es w r
unfolding Tells
searched_finds (clash {w = w} e) = λ v o m. clash_never w e v (obeys_follows v w o)
searched_finds (conflict {w = w} apart j) = λ v o m. first_tells j v (obeys_follows v w o) m
searched_finds {es = es} (follow {w = w} {u = u} {r = r} x apart j k s) = found_forced es w u x r k (first_tells j) (searched_finds s)
searched_finds {es = es} (full {w = w} apart j all) = found_full es w apart (first_tells j apart all)
searched_finds {es = es} (try_out {w = w} {u = u} {v = v} a apart j low k s) = found_less es w u (negation a) v k (searched_finds s)
searched_finds {es = es} (try_in {w = w} {u = u} {t = t} {r = r} a apart j low k s l n) = found_both es w u t a r k l (searched_finds s) (searched_finds n)

-- where the atoms that no entry names are out too, unless they must be in, no verdict is lost
spared : (es : List Entry) (under w : Assumptions) → StartTrail es under w → Unsatisfiable w es → Unsatisfiable under es
spared es under w st never v o m =
    never (restricted es under v) (follows_obeys _ w (record {
      ins = λ i h. grind (arith, nat_tests, st.within i);
      outs = λ i h. grind (arith, nat_tests, st.without i, f.ins i, f.outs i);
    }))
    (restricted_all es under v f m)
  where
    f : Follows v under
    f = obeys_follows v under o

started_less : (es : List Entry) (under w : Assumptions) → StartTrail es under w → (v : Valuation) → Obeys v w → Obeys v under
started_less es under w st v o =
    let f = obeys_follows v w o in
    follows_obeys v under (record {
      ins = λ i h. f.ins i (st.within i ∙ h);
      outs = λ i h. f.outs i (st.without i ∙ or_left (has under.without i) _ h);
    })

pub from_finds : (es : List Entry) (under : Assumptions) (r : Option AtomSet) → SearchedFrom es under r → Finds es under r
from_finds es under (Some s) k =
    let f : Satisfies es k.trail (has s) = searched_finds k.found in
    record { obeyed = started_less es under k.trail k.started (has s) f.obeyed; made = f.made }
from_finds es under None k = spared es under k.trail k.started (searched_finds k.found)
