use Rattle.std.proofs.Common.{rules, ◌≡◌, ℕ, ◌^◌, ◌<◌, Bool, true, false, not, ◌&&◌, ◌||◌, eqb, Some, None, Option, MatchOption, sym, refl, ◌∙◌, subst, arith}
use Rattle.std.proofs.lemmas.Bool.Decides.{nat_tests}
use Rattle.atoms.specs.Sets.{has}
use Rattle.atoms.specs.declared.assumptions.Assumptions.{Assumptions}
use Rattle.atoms.specs.declared.clauses.Clause.{Clause}
use Rattle.atoms.specs.declared.sets.AtomSet.{AtomSet}
use Rattle.atoms.proofs.Members.{has_high}
use Rattle.atoms.proofs.Obeying.{undecided_of}
use Rattle.search.specs.Judging.{trail_makes_at, undecided_at, Sole, Judged, Forces}
use Rattle.search.specs.declared.status.Status.{Status}
use Rattle.search.specs.declared.status.Status.TheVariants.{Forced, Open}
use Rattle.search.proofs.Clausewise.{all_out, leaves_met, leaves_both, leaves_many, signed}
use Rattle.search.proofs.judging.judge.Goals as goal

-- the set of the atoms of true literals, as the code computes it
true_is : (w : Assumptions) (c : Clause) (p n r : AtomSet) → ((i : ℕ) → has p i ≡ has c.plain i && has w.within i) → ((i : ℕ) → has n i ≡ has c.negated i && has w.without i)
    → ((i : ℕ) → has r i ≡ has p i || has n i) → (i : ℕ) → has r i ≡ trail_makes_at w c i
true_is w c p n r a b d i = let x = a i in let y = b i in let z = d i in cc

-- a set with a member has one below 64
some_open : (w : Assumptions) (s r : AtomSet) → r.bits < 2 ^ 64 → ((i : ℕ) → undecided_at w s i ≡ has r i) → (((i : ℕ) → has r i ≡ false) → false ≡ true)
    → ((a : ℕ) → a < 64 → undecided_at w s a ≡ false) → ⊥
some_open w s r fits is some none = all_out (has r) false (λ i l. has_high 64 r.bits i fits l) some refl (λ a l. sym (is a) ∙ none a l)

-- a set with one member below 64 has just that
sole_low : (w : Assumptions) (s r : AtomSet) → r.bits < 2 ^ 64 → ((i : ℕ) → undecided_at w s i ≡ has r i) → (y : ℕ) → y < 64 → ((a : ℕ) → a < 64 → undecided_at w s a ≡ eqb y a) → Sole r y
sole_low w s r fits is y ly h = record { small = ly; members = λ i. grind (arith, nat_tests, has_high 64 r.bits i fits, is i, h i) }

-- undecided literals of one sign alone: r has their atoms
one_sign : (h : Bool) (w : Assumptions) (c : Clause) (r : AtomSet) (o : Option ℕ) (s : Status) → r.bits < 2 ^ 64 → ((a : ℕ) → trail_makes_at w c a ≡ false)
    → ((a : ℕ) → undecided_at w (signed h c) a ≡ has r a) → ((a : ℕ) → undecided_at w (signed (not h) c) a ≡ false) → (((a : ℕ) → has r a ≡ false) → false ≡ true)
    → MatchOption o ((a : ℕ) → Sole r a → ⊥) (λ a. Sole r a) → (o ≡ None → s ≡ Open) → ((a : ℕ) → o ≡ Some a → s ≡ Forced (record { atom = a; holds = h })) → Judged w c s
one_sign h w c r None s fits untrue is other some k e f =
    subst (λ (x : Status). Judged w c x) (sym (e refl)) (leaves_many h w c (some_open w (signed h c) r fits is some) (λ y l g. k y (sole_low w (signed h c) r fits is y l g)))
one_sign h w c r (Some a) s fits untrue is other some k e f = subst (λ (x : Status). Judged w c x) (sym (f a refl)) (by h is other)
  where
    by : (h : Bool) → ((i : ℕ) → undecided_at w (signed h c) i ≡ has r i) → ((i : ℕ) → undecided_at w (signed (not h) c) i ≡ false) → Forces w c (record { atom = a; holds = h })
    by true is other = record { small = k.small; untrue = λ i _. untrue i; plain = λ i _. is i ∙ k.members i; negated = λ i _. other i }
    by false is other = record { small = k.small; untrue = λ i _. untrue i; plain = λ i _. other i; negated = λ i _. is i ∙ k.members i }

pub returns-then-not-is_empty : goal.returns-then-not-is_empty
returns-then-not-is_empty c =
    let m = true_is c.args.trail c.args.clause c.intersection-plain_true.result c.intersection-negated_true.result c.union.result
    c.intersection-plain_true.ensures c.intersection-negated_true.ensures c.union.ensures in
    leaves_met c.args.trail c.args.clause
    (λ h. all_out (has c.union.result) c.is_empty.result (λ i l. has_high 64 c.union.result.bits i (omega arith) l) c.is_empty.ensures.some c.if-not-is_empty.true (λ a l. m a ∙ h a l))

pub returns-in-false-true : goal.returns-in-false-true
returns-in-false-true c =
    let m = true_is c.args.trail c.args.clause c.intersection-plain_true.result c.intersection-negated_true.result c.union.result
    c.intersection-plain_true.ensures c.intersection-negated_true.ensures c.union.ensures in
    let p = undecided_of c.args.trail c.args.clause.plain c.undecided-undecided.result c.intersection-plain.result (omega arith) c.undecided-undecided.ensures c.intersection-plain.ensures in
    let n = undecided_of c.args.trail c.args.clause.negated c.undecided-undecided.result c.intersection-negated.result (omega arith) c.undecided-undecided.ensures c.intersection-negated.ensures in
    one_sign true c.args.trail c.args.clause c.intersection-plain.result c.sole-in-false-true.result c.map_or-in-false-true.result (omega arith)
    (λ a. sym (m a) ∙ c.is_empty.ensures.all c.if-not-is_empty.false a) (λ a. sym (p a)) (λ a. sym (n a) ∙ c.in-false-true.ensures'.all refl a) c.in-false-true.ensures.some
    c.sole-in-false-true.ensures (λ e. search rules) (λ a e. search rules)

pub returns-in-true-false : goal.returns-in-true-false
returns-in-true-false c =
    let m = true_is c.args.trail c.args.clause c.intersection-plain_true.result c.intersection-negated_true.result c.union.result
    c.intersection-plain_true.ensures c.intersection-negated_true.ensures c.union.ensures in
    let p = undecided_of c.args.trail c.args.clause.plain c.undecided-undecided.result c.intersection-plain.result (omega arith) c.undecided-undecided.ensures c.intersection-plain.ensures in
    let n = undecided_of c.args.trail c.args.clause.negated c.undecided-undecided.result c.intersection-negated.result (omega arith) c.undecided-undecided.ensures c.intersection-negated.ensures in
    one_sign false c.args.trail c.args.clause c.intersection-negated.result c.sole.result c.map_or.result (omega arith)
    (λ a. sym (m a) ∙ c.is_empty.ensures.all c.if-not-is_empty.false a) (λ a. sym (n a)) (λ a. sym (p a) ∙ c.in-true-false.ensures.all refl a) c.in-true-false.ensures'.some
    c.sole.ensures (λ e. search rules) (λ a e. search rules)

pub returns-in-false-false : goal.returns-in-false-false
returns-in-false-false c =
    let p = undecided_of c.args.trail c.args.clause.plain c.undecided-undecided.result c.intersection-plain.result (omega arith) c.undecided-undecided.ensures c.intersection-plain.ensures in
    let n = undecided_of c.args.trail c.args.clause.negated c.undecided-undecided.result c.intersection-negated.result (omega arith) c.undecided-undecided.ensures c.intersection-negated.ensures in
    leaves_both c.args.trail c.args.clause
    (some_open c.args.trail c.args.clause.plain c.intersection-plain.result (omega arith) (λ a. sym (p a)) c.in-false-false.ensures.some)
    (some_open c.args.trail c.args.clause.negated c.intersection-negated.result (omega arith) (λ a. sym (n a)) c.in-false-false.ensures'.some)
