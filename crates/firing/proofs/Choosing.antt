-- Which box clauses are chosen for the literals of a core, going over the fired ones by rising names.
use Rattle.std.proofs.Common.{◌≡◌, ◌^◌, ◌<◌, ◌≤◌, Bool, true, false, ◌⊎◌, List, [], ◌∷◌, ◌++◌, sym, ap, ◌∙◌, subst, inl, inr, arith}
use Rattle.std.specs.Prelude.{◌≢◌}
use Rattle.std.proofs.lemmas.Bool.{true≢false}
use Rattle.lists.specs.Lists.{In, here, there}
use Rattle.lists.proofs.Members.{in_left, in_right, in_either, in_one}
use Rattle.atoms.specs.Assuming.{assumes, Dropped}
use Rattle.atoms.specs.Clauses.{Valuation, with_literal, clause_from, negation}
use Rattle.atoms.specs.Sets.{has}
use Rattle.atoms.specs.declared.assumptions.Assumptions.{Assumptions}
use Rattle.atoms.specs.declared.clauses.Clause.{Clause}
use Rattle.atoms.specs.declared.clauses.Literal.{Literal}
use Rattle.atoms.specs.declared.sets.AtomSet.{AtomSet}
use Rattle.clausal.specs.Clausal.{ClauseOf, Rising}
use Rattle.clausal.specs.Questions.{negations}
use Rattle.clausal.specs.States.{fired}
use Rattle.clausal.specs.declared.modal_clauses.ModalClause.{ModalClause}
use Rattle.clausal.proofs.Words.{none_of, one_more}
use Rattle.firing.specs.Firing.{LearntFromCore}
use Rattle.firing.proofs.Gathering.{literal_cases, literal_from}
use Rattle.firing.proofs.Rising.{RisingAtoms, LastRises, last_rises, fired_rise}

-- the order of a clause's literals does not matter
swapped : {x y : Literal} {xs : List Literal} {c : Clause} → ClauseOf (x ∷ y ∷ xs) c → ClauseOf (y ∷ x ∷ xs) c
swapped {x} {y} {xs} {c} k = record { small = λ z i. k.small z (turn i); within = λ z h e. turn (k.within z h e); whole = λ z i. k.whole z (turn i) }
  where
    turn : {x y : Literal} {z : Literal} → In z (x ∷ y ∷ xs) → In z (y ∷ x ∷ xs)
    turn here = there here
    turn (there here) = here
    turn (there (there i)) = there (there i)

-- which of the clauses seen so far are chosen, and which literals of the core none of them covers: not the diamond clause's, and none of a clause seen
pub record ChosenSoFar (d : ModalClause) (core uncovered : Assumptions) (seen : List ModalClause) (c : Clause) : Type 0 where
  pub chosen : List ModalClause
  pub met : (b : ModalClause) → In b chosen → In b seen
  pub wanted : (b : ModalClause) → In b chosen → (assumes core b.literal ≡ true) × (b.literal ≢ d.literal)
  pub lowest : (b a : ModalClause) → In b chosen → In a seen → a.literal ≡ b.literal → b.name ≤ a.name
  pub covers : (x : Literal) → assumes core x ≡ true → (x ≢ d.literal) → (assumes uncovered x ≡ true) ⊎ ((b : ModalClause) × In b chosen × (b.literal ≡ x))
  pub missing : (x : Literal) → assumes uncovered x ≡ true → (assumes core x ≡ true) × (x ≢ d.literal) × ((a : ModalClause) → In a seen → a.literal ≢ x)
  pub is : ClauseOf (negation d.name ∷ negations chosen) c

-- what is assumed once x is dropped is not x
dropped_apart : {w r : Assumptions} {x : Literal} → Dropped w x r → (y : Literal) → assumes r y ≡ true → y ≢ x
dropped_apart {r = r} k y e q = true≢false (sym (subst (λ (z : Literal). assumes r z ≡ true) q e) ∙ k.gone)

pub chosen_none : (d : ModalClause) (core uncovered : Assumptions) (x : Literal) (c : Clause) → Dropped core d.literal uncovered → x ≡ negation d.name → c ≡ with_literal (clause_from []) x → RisingAtoms d [] → ChosenSoFar d core uncovered [] c
chosen_none d core uncovered x c k n e s = record {
  chosen = [];
  met = λ b i. i;
  wanted = λ b i. elim i [ ];
  lowest = λ b a i. elim i [ ];
  covers = λ y p n. inl (k.rest y n ∙ p);
  missing = λ y p. let n = dropped_apart k y p in (sym (k.rest y n) ∙ p, n, λ a i. elim i [ ]);
  is = subst (ClauseOf (negation d.name ∷ [])) (sym (e ∙ ap (with_literal (clause_from [])) n)) (one_more (negation d.name) s.named none_of);
}

module _ (d : ModalClause) (core uncovered : Assumptions) (seen : List ModalClause) (c : Clause) (m : ModalClause) (b : Bool) (before : RisingAtoms d seen → ChosenSoFar d core uncovered seen c) (tested : b ≡ assumes uncovered m.literal) (s : RisingAtoms d (seen ++ m ∷ [])) where
  step : LastRises d seen m
  step = last_rises d seen m s

  g : ChosenSoFar d core uncovered seen c
  g = before step.before

  -- a clause whose literal is covered, or not of the core
  pub chosen_passed : b ≡ false → ChosenSoFar d core uncovered (seen ++ m ∷ []) c
  chosen_passed lacks = record {
    chosen = g.chosen;
    met = λ b i. in_left (m ∷ []) (g.met b i);
    wanted = g.wanted;
    lowest = λ b a i j e. elim (in_either seen (m ∷ []) j) [
      | inl k ↦ g.lowest b a i k e
      | inr k ↦ (let h = step.lower b (g.met b i) in let q : m.name ≡ a.name = ap (λ (z : ModalClause). z.name) (in_one k) in omega arith)
    ];
    covers = g.covers;
    missing = λ x p. let w = g.missing x p in (
      w.0,
      w.1,
      λ a i q. elim (in_either seen (m ∷ []) i) [
        | inl k ↦ w.2 a k q
        | inr k ↦ true≢false (sym (subst (λ (z : Literal). assumes uncovered z ≡ true) (sym (ap (λ (z : ModalClause). z.literal) (in_one k) ∙ q)) p) ∙ sym tested ∙ lacks)
      ],
    );
    is = g.is;
  }

  -- a clause whose literal is uncovered
  pub chosen_more : (rest : Assumptions) (x : Literal) (e : Clause) → b ≡ true → Dropped uncovered m.literal rest → x ≡ negation m.name → e ≡ with_literal c x → ChosenSoFar d core rest (seen ++ m ∷ []) e
  chosen_more rest x e has_it k negated is = record {
    chosen = m ∷ g.chosen;
    met = met;
    wanted = wanted;
    lowest = lowest;
    covers = λ x p n. elim (g.covers x p n) [
      | inl q ↦ elim (literal_cases x m.literal) [ inl s ↦ inr (m, here, sym s) | inr s ↦ inl (k.rest x s ∙ q) ]
      | inr q ↦ (let (b, i, s) = q in inr (b, there i, s))
    ];
    missing = λ x p. let n = dropped_apart k x p in let w = g.missing x (sym (k.rest x n) ∙ p) in (
      w.0,
      w.1,
      λ a i q. elim (in_either seen (m ∷ []) i) [
        | inl j ↦ w.2 a j q
        | inr j ↦ n (sym q ∙ sym (ap (λ (z : ModalClause). z.literal) (in_one j)))
      ],
    );
    is = subst (ClauseOf (negation d.name ∷ negation m.name ∷ negations g.chosen)) (sym (is ∙ ap (with_literal c) negated)) (swapped (one_more (negation m.name) step.small g.is));
  }
    where
      is_uncovered : assumes uncovered m.literal ≡ true
      is_uncovered = sym tested ∙ has_it

      met : (b : ModalClause) → In b (m ∷ g.chosen) → In b (seen ++ m ∷ [])
      met b here = in_right seen here
      met b (there i) = in_left (m ∷ []) (g.met b i)

      wanted : (b : ModalClause) → In b (m ∷ g.chosen) → (assumes core b.literal ≡ true) × (b.literal ≢ d.literal)
      wanted b here = let w = g.missing m.literal is_uncovered in (w.0, w.1)
      wanted b (there i) = g.wanted b i

      lowest : (b a : ModalClause) → In b (m ∷ g.chosen) → In a (seen ++ m ∷ []) → a.literal ≡ b.literal → b.name ≤ a.name
      lowest b a here j q = elim (in_either seen (m ∷ []) j) [
        | inl k ↦ absurd ((g.missing m.literal is_uncovered).2 a k q)
        | inr k ↦ (let s : m.name ≡ a.name = ap (λ (z : ModalClause). z.name) (in_one k) in omega arith)
      ]
      lowest b a (there i) j q = elim (in_either seen (m ∷ []) j) [
        | inl k ↦ g.lowest b a i k q
        | inr k ↦ (let r = step.lower b (g.met b i) in let s : m.name ≡ a.name = ap (λ (z : ModalClause). z.name) (in_one k) in omega arith)
      ]

chosen_all : (boxes : List ModalClause) (v : Valuation) {d : ModalClause} {core uncovered : Assumptions} {c : Clause} → ChosenSoFar d core uncovered (fired v boxes) c → LearntFromCore boxes v d core c
chosen_all boxes v g = record {
  chosen = g.chosen;
  fire = g.met;
  wanted = g.wanted;
  lowest = g.lowest;
  covers = λ x e n i. elim (g.covers x e n) [
    | inl q ↦ (let (a, j, s) = literal_from (fired v boxes) i in absurd ((g.missing x q).2 a j s))
    | inr q ↦ q
  ];
  is = g.is;
}

-- the clauses seen are those that fire
pub chosen_fired : (v : AtomSet) → v.bits < 2 ^ 64 → (boxes : List ModalClause) (d : ModalClause) (core uncovered : Assumptions) (seen : List ModalClause) (c : Clause) → seen ≡ fired (has v) boxes → (RisingAtoms d seen → ChosenSoFar d core uncovered seen c) → Rising boxes → d.name < 64 → LearntFromCore boxes (has v) d core c
chosen_fired v f boxes d core uncovered seen c e g r h = chosen_all boxes (has v) (subst (λ ms. ChosenSoFar d core uncovered ms c) e (g (subst (RisingAtoms d) (sym e) (fired_rise v f d boxes r h))))
