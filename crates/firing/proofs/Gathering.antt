-- Names and literals gathered clause by clause.
use Rattle.std.proofs.Common.{◌≡◌, ℕ, ◌^◌, ◌<◌, Bool, true, false, cond, not, ◌&&◌, ◌||◌, eqb, ltb, ◌⊎◌, List, [], ◌∷◌, ◌++◌, sym, refl, ap, ◌∙◌, subst, inl, inr}
use Rattle.std.specs.Prelude.{◌≢◌}
use Rattle.std.proofs.lemmas.Bool.{cases_eq, and_parts, and_from, or_cases, or_left, or_right, true≢false, eq-eqb, eqb-true, lt-ltb, cases_lt, not-true}
use Rattle.lists.specs.Lists.{In, here, there}
use Rattle.lists.proofs.Members.{in_left, in_right, in_either, in_one, kept_in}
use Rattle.atoms.specs.Assuming.{assumes, Joined}
use Rattle.atoms.specs.Sets.{has}
use Rattle.atoms.specs.declared.assumptions.Assumptions.{Assumptions}
use Rattle.atoms.specs.declared.clauses.Literal.{Literal}
use Rattle.atoms.specs.declared.sets.AtomSet.{AtomSet}
use Rattle.atoms.proofs.Members.{has_none, has_high}
use Rattle.clausal.specs.States.{fired, literals}
use Rattle.clausal.specs.declared.modal_clauses.ModalClause.{ModalClause}
use Rattle.firing.specs.Firing.{AssumesJust, NamesOf}

-- a name that is in is an atom
pub member_small : (v : AtomSet) → v.bits < 2 ^ 64 → (a : ℕ) → has v a ≡ true → a < 64
member_small v f a e = elim (cases_lt a 64) [ inl h ↦ h | inr h ↦ absurd (true≢false (sym e ∙ has_high 64 v.bits a f h)) ]

-- the set is of the names of these clauses, as far as these are atoms
pub record Gathers (s : AtomSet) (ds : List ModalClause) : Type 0 where
  pub each : (d : ModalClause) → In d ds → d.name < 64 → has s d.name ≡ true
  pub only : (a : ℕ) → has s a ≡ true → (d : ModalClause) × In d ds × (d.name ≡ a)

pub gathers_none : Gathers (record { bits = 0 }) []
gathers_none = record { each = λ d i. elim i [ ]; only = λ a e. absurd (true≢false (sym e ∙ has_none a)) }

pub gathers_more : (s r : AtomSet) (ds : List ModalClause) (m : ModalClause) → Gathers s ds → ((i : ℕ) → has r i ≡ has s i || (eqb m.name i && ltb i 64)) → Gathers r (ds ++ m ∷ [])
gathers_more s r ds m g is = record {
  each = λ d i h. is d.name ∙ elim (in_either ds (m ∷ []) i) [
    | inl j ↦ or_left _ _ (g.each d j h)
    | inr j ↦ or_right _ _ (and_from _ _ (eq-eqb m.name d.name (ap (λ (x : ModalClause). x.name) (in_one j))) (lt-ltb d.name 64 h))
  ];
  only = λ a e. elim (or_cases _ _ (sym (is a) ∙ e)) [
    | inl q ↦ (let (d, i, p) = g.only a q in (d, in_left (m ∷ []) i, p))
    | inr q ↦ (m, in_right ds here, eqb-true m.name a (and_parts _ _ q).0)
  ];
}

pub gathered : (v s : AtomSet) (ds : List ModalClause) → v.bits < 2 ^ 64 → Gathers s (fired (has v) ds) → NamesOf s (fired (has v) ds)
gathered v s ds f g = record { each = λ d i. g.each d i (member_small v f d.name (kept_in (λ m. has v m.name) ds i).1); only = g.only }

-- literals that are assumed, one more each time

pub stands_none : (w : Assumptions) → ((i : ℕ) → has w.within i ≡ false) → ((i : ℕ) → has w.without i ≡ false) → AssumesJust w []
stands_none w a b = record { each = λ x i. elim i [ ]; only = λ x e. absurd (true≢false (sym e ∙ go x.holds x.atom)) }
  where
    go : (h : Bool) (n : ℕ) → cond h (has w.within n) (has w.without n) ≡ false
    go true n = a n
    go false n = b n

pub stands_more : (w r : Assumptions) (xs : List Literal) (x : Literal) → AssumesJust w xs → Joined w x r → AssumesJust r (xs ++ x ∷ [])
stands_more w r xs x s j = record {
  each = λ y i h. elim (in_either xs (x ∷ []) i) [
    | inl k ↦ old y (s.each y k h)
    | inr k ↦ subst (λ (z : Literal). assumes r z ≡ true) (in_one k) (new x.holds refl (subst (λ (z : Literal). z.atom < 64) (sym (in_one k)) h))
  ];
  only = λ y e. elim (cases y.holds y.atom e) [
    | inl k ↦ in_left (x ∷ []) (s.only y k)
    | inr k ↦ subst (λ (z : Literal). In z (xs ++ x ∷ [])) k (in_right xs here)
  ];
}
  where
    old : (y : Literal) → assumes w y ≡ true → assumes r y ≡ true
    old y = go y.holds y.atom
      where
        go : (h : Bool) (n : ℕ) → cond h (has w.within n) (has w.without n) ≡ true → cond h (has r.within n) (has r.without n) ≡ true
        go true n e = j.ins n ∙ or_left _ _ e
        go false n e = j.outs n ∙ or_left _ _ e

    new : (h : Bool) → x.holds ≡ h → x.atom < 64 → cond h (has r.within x.atom) (has r.without x.atom) ≡ true
    new true e l = j.ins x.atom ∙ or_right _ _ (and_from _ _ e (and_from _ _ (eq-eqb x.atom x.atom refl) (lt-ltb x.atom 64 l)))
    new false e l = j.outs x.atom ∙ or_right _ _ (and_from _ _ (ap not e) (and_from _ _ (eq-eqb x.atom x.atom refl) (lt-ltb x.atom 64 l)))

    same : (h : Bool) (n : ℕ) → x.holds ≡ h → x.atom ≡ n → x ≡ record { atom = n; holds = h }
    same h n p q = λ i. record { atom = q i; holds = p i }

    cases : (h : Bool) (n : ℕ) → cond h (has r.within n) (has r.without n) ≡ true → (cond h (has w.within n) (has w.without n) ≡ true) ⊎ (x ≡ record { atom = n; holds = h })
    cases true n e = elim (or_cases _ _ (sym (j.ins n) ∙ e)) [ inl q ↦ inl q | inr q ↦ (let (a, b) = and_parts _ _ q in inr (same true n a (eqb-true x.atom n (and_parts _ _ b).0))) ]
    cases false n e = elim (or_cases _ _ (sym (j.outs n) ∙ e)) [ inl q ↦ inl q | inr q ↦ (let (a, b) = and_parts _ _ q in inr (same false n (not-true x.holds a) (eqb-true x.atom n (and_parts _ _ b).0))) ]

pub literal_cases : (x y : Literal) → (x ≡ y) ⊎ (x ≢ y)
literal_cases x y = go (cases_eq x.atom y.atom) (signs x.holds y.holds)
  where
    signs : (a b : Bool) → (a ≡ b) ⊎ (a ≢ b)
    signs true true = inl refl
    signs true false = inr true≢false
    signs false true = inr (λ e. true≢false (sym e))
    signs false false = inl refl

    go : (x.atom ≡ y.atom) ⊎ (x.atom ≢ y.atom) → (x.holds ≡ y.holds) ⊎ (x.holds ≢ y.holds) → (x ≡ y) ⊎ (x ≢ y)
    go (inl a) (inl b) = inl (λ i. record { atom = a i; holds = b i })
    go (inl a) (inr b) = inr (λ e. b (ap (λ (z : Literal). z.holds) e))
    go (inr a) s = inr (λ e. a (ap (λ (z : Literal). z.atom) e))

pub literal_from : (ms : List ModalClause) {x : Literal} → In x (literals ms) → (m : ModalClause) × In m ms × (m.literal ≡ x)
literal_from [] i = elim i [ ]
literal_from (m ∷ ms) here = (m, here, refl)
literal_from (m ∷ ms) (there i) = let (a, j, e) = literal_from ms i in (a, there j, e)

pub literals_more : (ms : List ModalClause) (m : ModalClause) → literals (ms ++ m ∷ []) ≡ literals ms ++ m.literal ∷ []
literals_more [] m = refl
literals_more (x ∷ ms) m = ap (λ zs. x.literal ∷ zs) (literals_more ms m)

pub part_more : (w r : Assumptions) (x : Literal) (ms : List ModalClause) (m : ModalClause) → AssumesJust w (x ∷ literals ms) → Joined w m.literal r → AssumesJust r (x ∷ literals (ms ++ m ∷ []))
part_more w r x ms m s j = rw literals_more (stands_more w r (x ∷ literals ms) m.literal s j)
