-- Clauses as sets of literals, and the definitions that a session holds.
use Rattle.std.proofs.lemmas.Grind.{common_steps}
use Rattle.std.proofs.lemmas.Bool.Decides.{nat_tests}
use Rattle.std.proofs.Common.{◌≡◌, ℕ, zero, suc, ◌+◌, ◌<◌, Bool, true, false, cond, not, ◌&&◌, ◌||◌, ◌⊎◌, List, [], ◌∷◌, length, sym, refl, ap, subst, inl, inr, arith}
use Rattle.atoms.proofs.Making.{makes_here, makes_where}
use Rattle.std.proofs.lemmas.Bool.{and_parts, and_from, or_cases, or_left, or_right, cases_eq, cases_Bool, both_ways}
use Rattle.clausal.proofs.Gathered.{gather_in, gathered}
use Rattle.clausal.specs.Clausal.{ClauseOf, EntryOf, DefinedBy, boxed, defines_rule, diamonded, has_literal, modal_name, modals, modals_at, row_at, shape, first_clauses}
use Rattle.clausal.specs.Places.{lit}
use Rattle.clausal.specs.States.{State, name_at}
use Rattle.clausal.specs.declared.modal_clauses.ModalClause.{ModalClause}
use Rattle.clausal.specs.declared.names.Name.{Name}
use Rattle.clausal.specs.declared.names.Name.TheVariants.{Free as free, Handle as handle, Place as place}
use Rattle.clausal.specs.declared.shapes.Shape.{Shape}
use Rattle.clausal.specs.declared.shapes.Shape.TheVariants.{All as all, One as one}
use Rattle.atoms.specs.Clauses.{Valuation, makes, negation, obeys_one}
use Rattle.atoms.specs.Sets.{has}
use Rattle.atoms.specs.declared.clauses.Clause.{Clause}
use Rattle.atoms.specs.declared.clauses.Entry.{Entry}
use Rattle.atoms.specs.declared.clauses.Literal.{Literal}
use Rattle.lists.proofs.Members.{in_either, in_left, in_right, match_left, match_right}
use Rattle.lists.specs.Lists.{In, here, there}

-- a literal of the clause that is true makes it true
pub makes_from : (v : Valuation) (c : Clause) (x : Literal) → x.atom < 64 → has_literal c x ≡ true → obeys_one v x ≡ true → makes v c ≡ true
makes_from v c x l h o = makes_here v c x.atom l (go x.holds h o)
  where
    go : (b : Bool) → cond b (has c.plain x.atom) (has c.negated x.atom) ≡ true → cond b (v x.atom) (not (v x.atom)) ≡ true → ((has c.plain x.atom && v x.atom) || (has c.negated x.atom && not (v x.atom))) ≡ true
    go true p q = or_left _ _ (and_from _ _ p q)
    go false p q = or_right _ _ (and_from _ _ p q)

pub clause_made : {xs : List Literal} {c : Clause} (v : Valuation) → ClauseOf xs c → (x : Literal) → In x xs → obeys_one v x ≡ true → makes v c ≡ true
clause_made {c = c} v k x i o = makes_from v c x (k.small x i) (k.whole x i) o

-- one of the literals is true
abbrev pub Holding : Valuation → List Literal → Type 0
Holding v xs = (x : Literal) × In x xs × (obeys_one v x ≡ true)

pub only : (v : Valuation) (y : Literal) → Holding v (y ∷ []) → obeys_one v y ≡ true
only v y v3 = grind (arith, common_steps, nat_tests)

pub of_two : (v : Valuation) (y z : Literal) → Holding v (y ∷ (z ∷ [])) → (obeys_one v y ≡ true) ⊎ (obeys_one v z ≡ true)
of_two v y z (x, here, o) = inl o
of_two v y z (x, there i, o) = inr (only v z (x, i, o))

-- a clause "not n, or .." is true as soon as n implies one of the others
pub unless : (v : Valuation) (n : ℕ) (xs : List Literal) → (v n ≡ true → Holding v xs) → Holding v (negation n ∷ xs)
unless v n xs f = elim (cases_Bool (v n)) [ inl e ↦ (let (x, i, o) = f e in (x, there i, o)) | inr e ↦ (negation n, here, ap not e) ]

pub clause_cases : {xs : List Literal} {c : Clause} (v : Valuation) → ClauseOf xs c → makes v c ≡ true → Holding v xs
clause_cases {c = c} v k m =
    let (a, l, h) = makes_where v c m in
    elim (or_cases _ _ h) [ inl e ↦ (let (p, q) = and_parts _ _ e in (record { atom = a; holds = true }, k.within _ l p, q)) | inr e ↦ (let (p, q) = and_parts _ _ e in (record { atom = a; holds = false }, k.within _ l p, q)) ]

-- a true clause "not n, or .." with n in leaves the others
pub then_one : (v : Valuation) (n : ℕ) (xs : List Literal) (c : Clause) → v n ≡ true → ClauseOf (negation n ∷ xs) c → makes v c ≡ true → Holding v xs
then_one v n xs c t k m = go (clause_cases v k m)
  where
    go : Holding v (negation n ∷ xs) → Holding v xs
    go (x, here, o) = absurd (both_ways _ (ap not t) o)
    go (x, there i, o) = (x, i, o)

module _ (st : State) (l : ℕ) where
  -- every definition is the level's start or that of a name of a rule
  pub written_from : (k : ℕ) (es : List Entry) → DefinedBy st l k es → {e : Entry} → In e es → (xs : List Literal) × EntryOf xs e × (In xs (first_clauses l) ⊎ ((r : ℕ) × In xs (defines_rule st l r)))
  written_from zero es m i = let (xs, j, w) = match_left EntryOf m i in (xs, w, inl j)
  written_from (suc k) es (old, new, e, o, m) i = elim (in_either old new (subst (In _) e i)) [
    | inl j ↦ written_from k old o j
    | inr j ↦ (let (xs, x, w) = match_left EntryOf m j in (xs, w, inr (k, x)))
  ]

  pub start_in : (k : ℕ) (es : List Entry) → DefinedBy st l k es → {xs : List Literal} → In xs (first_clauses l) → (e : Entry) × In e es × EntryOf xs e
  start_in zero es m i = match_right EntryOf m i
  start_in (suc k) es (old, new, e, o, m) i = let (x, j, w) = start_in k old o i in (x, subst (In x) (sym e) (in_left new j), w)

  pub rule_in : (k : ℕ) (es : List Entry) → DefinedBy st l k es → (r : ℕ) → r < k → {xs : List Literal} → In xs (defines_rule st l r) → (e : Entry) × In e es × EntryOf xs e
  rule_in zero es m r h i = absurd (omega arith)
  rule_in (suc k) es (old, new, e, o, m) r h {xs} i = elim (cases_eq r k) [
    | inl q ↦ (let (x, j, w) = match_right EntryOf m (subst (λ n. In xs (defines_rule st l n)) q i) in (x, subst (In x) (sym e) (in_right old j), w))
    | inr q ↦ (let (x, j, w) = rule_in k old o r (omega arith) i in (x, subst (In x) (sym e) (in_left new j), w))
  ]

-- where a box or diamond clause comes from
pub record Source (under : Shape → List ℕ) (st : State) (l : ℕ) (m : ModalClause) : Type 0 where
  pub slot : ℕ
  pub rule : ℕ
  pub row : ℕ
  pub sign : Bool
  pub child : ℕ
  pub within : slot < length (st.names l)
  pub is : name_at st l slot ≡ place rule row sign
  pub shaped : In child (under (shape (row_at st rule row) sign))
  pub modal : m ≡ record { name = 16 + slot; literal = lit st rule (suc l) sign child }

modal_of : (n : ℕ) (x : ℕ → Literal) (cs : List ℕ) {m : ModalClause} → In m (modals n x cs) → (c : ℕ) × In c cs × (m ≡ record { name = n; literal = x c })
modal_of n x [] i = elim i [ ]
modal_of n x (c ∷ cs) here = (c, here, refl)
modal_of n x (c ∷ cs) (there i) = let (d, j, e) = modal_of n x cs i in (d, there j, e)

of_modal : (n : ℕ) (x : ℕ → Literal) {c : ℕ} {cs : List ℕ} → In c cs → In (record { name = n; literal = x c }) (modals n x cs)
of_modal n x here = here
of_modal n x (there i) = there (of_modal n x i)

module _ (under : Shape → List ℕ) (st : State) (l : ℕ) where
  pub modal_from : (m : ModalClause) → In m (modals_at under st l) → Source under st l m
  modal_from m i = let (k, h, q) = gathered (modal_name under st l) 16 (st.names l) i in go k h (name_at st l k) refl q
    where
      go : (k : ℕ) → k < length (st.names l) → (x : Name) → name_at st l k ≡ x → In m (modal_name under st l (16 + k) x) → Source under st l m
      go k h free e j = elim j [ ]
      go k h (handle r) e j = elim j [ ]
      go k h (place r b s) e j =
          let (c, u, q) = modal_of (16 + k) (lit st r (suc l) s) (under (shape (row_at st r b) s)) j in
          record { slot = k; rule = r; row = b; sign = s; child = c; within = h; is = e; shaped = u; modal = q }

  pub modal_in : (k r b : ℕ) (s : Bool) (c : ℕ) → k < length (st.names l) → name_at st l k ≡ place r b s → In c (under (shape (row_at st r b) s)) → In (record { name = 16 + k; literal = lit st r (suc l) s c }) (modals_at under st l)
  modal_in k r b s c h e u = gather_in (modal_name under st l) 16 (st.names l) k h (rw e (of_modal (16 + k) (lit st r (suc l) s) u))

pub boxed_is : {c : ℕ} (sh : Shape) → In c (boxed sh) → sh ≡ all c
boxed_is v1 v2 = grind (arith, common_steps, nat_tests)

pub diamonded_is : {c : ℕ} (sh : Shape) → In c (diamonded sh) → sh ≡ one c
diamonded_is v1 v2 = grind (arith, common_steps, nat_tests)
