-- The clause learnt from a core of a part is the clause that the question may learn.
use Rattle.std.proofs.Common.{◌≡◌, ℕ, suc, true, List, ◌∷◌, filter, inl, inr}
use Rattle.std.specs.Prelude.{◌≢◌}
use Rattle.lists.specs.Lists.{In, here, there}
use Rattle.lists.proofs.Members.{every_in, in_kept, kept_in}
use Rattle.atoms.specs.Assuming.{assumes}
use Rattle.atoms.specs.Clauses.{Valuation, obeys_one}
use Rattle.atoms.specs.declared.assumptions.Assumptions.{Assumptions}
use Rattle.atoms.specs.declared.clauses.Clause.{Clause}
use Rattle.atoms.specs.declared.clauses.Literal.{Literal}
use Rattle.oracle.specs.Oracles.{Lists, Unsatisfiable}
use Rattle.clausal.specs.Questions.{part_of, with_entries, CoreOf, LearntClause}
use Rattle.clausal.specs.States.{State, fired}
use Rattle.clausal.specs.declared.modal_clauses.ModalClause.{ModalClause}
use Rattle.firing.specs.Firing.{LearntFromCore}
use Rattle.firing.proofs.Gathering.{literal_cases}

-- the literals of a core of the part of a diamond clause
abbrev pub core_literals : State → ℕ → Valuation → ModalClause → Assumptions → List Literal
core_literals st l v d core = filter (assumes core) (part_of st l v d)

not_first : {x y : Literal} {xs : List Literal} → In x (y ∷ xs) → x ≢ y → In x xs
not_first {y = y} here n = absurd (n (λ i. y))
not_first (there i) n = i

module _ (st : State) (l : ℕ) (v : Valuation) (d : ModalClause) (core : Assumptions) (inside : (x : Literal) → assumes core x ≡ true → In x (part_of st l v d)) where
  pub learnt_clause_of : (c : Clause) → In d (fired v (st.diamonds l)) → LearntFromCore (st.boxes l) v d core c → LearntClause st l v d (core_literals st l v d core) c
  learnt_clause_of c i g = record {
    fires = i;
    boxes = g.chosen;
    fire = g.fire;
    wanted = λ b j. let (e, n) = g.wanted b j in (in_kept (assumes core) (inside b.literal e) e, n);
    lowest = g.lowest;
    covers = λ x j. let (k, e) = kept_in (assumes core) (part_of st l v d) j in elim (literal_cases x d.literal) [ inl q ↦ inl q | inr n ↦ inr (g.covers x e n (not_first k n)) ];
    is = g.is;
  }

  pub core_of : (es : Lists) → Unsatisfiable core (es (suc l)) → CoreOf (with_entries st es) (suc l) (part_of st l v d) (core_literals st l v d core)
  core_of es u = record {
    part = λ x i. (kept_in (assumes core) (part_of st l v d) i).0;
    unsatisfiable = λ w o. u w (λ x e. every_in (obeys_one w) (in_kept (assumes core) (inside x e) e) o);
  }
