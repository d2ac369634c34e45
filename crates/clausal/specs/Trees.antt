-- Complete trees of valuations, their number of worlds, and the Kripke model that each is.
use Rattle.std.specs.Prelude.{◌≡◌, ℕ, suc, ◌+◌, true, ◌&&◌, List, [], ◌∷◌, ◌++◌, nat_lt}
use Rattle.modal.specs.Kripke.{World}
use Rattle.atoms.specs.Clauses.{Valuation, makes_all, definitions}
use Rattle.atoms.specs.declared.clauses.Literal.{Literal}
use Rattle.clausal.specs.States.{State, obeys_all, fired, literals}
use Rattle.clausal.specs.declared.modal_clauses.ModalClause.{ModalClause}

mutual
  pub data Tree : Type 0 where
    node : Valuation → Forest → Tree

  pub data Forest : Type 0 where
    none : Forest
    more : Tree → Forest → Forest

-- the valuation of the root
abbrev pub root : Tree → Valuation
root (node v ts) = v

abbrev mutual
  -- each world's valuation obeys its literals and its level's definitions, and has exactly one successor for each fired diamond, one level further under the diamond's literal and those of all fired boxes
  pub Complete : State → ℕ → List Literal → Tree → Type 0
  Complete st l xs (node v ts) = (obeys_all v xs ≡ true) × (makes_all v (definitions (st.entries l)) ≡ true) × CompleteAll st (suc l) (literals (fired v (st.boxes l))) (fired v (st.diamonds l)) ts

  pub CompleteAll : State → ℕ → List Literal → List ModalClause → Forest → Type 0
  CompleteAll st l bs ds none = ds ≡ []
  CompleteAll st l bs ds (more t ts) = (d : ModalClause) × (rest : List ModalClause) × (ds ≡ d ∷ rest) × Complete st l (d.literal ∷ bs) t × CompleteAll st l bs rest ts

abbrev mutual
  -- the number of worlds
  pub size : Tree → ℕ
  size (node v ts) = suc (sizes ts)

  pub sizes : Forest → ℕ
  sizes none = 0
  sizes (more t ts) = size t + sizes ts

-- the numbers of the roots of a forest whose first world has the number n, in preorder
abbrev pub roots : ℕ → Forest → List ℕ
roots n none = []
roots n (more t ts) = n ∷ roots (n + size t) ts

abbrev mutual
  -- the tree as the worlds of a model, in preorder, the root with the number n; a world's letters are those of its valuation
  pub worlds : ℕ → Tree → List World
  worlds n (node v ts) = record { letters = λ a. nat_lt a 15 && v a; successors = roots (suc n) ts } ∷ worlds_all (suc n) ts

  pub worlds_all : ℕ → Forest → List World
  worlds_all n none = []
  worlds_all n (more t ts) = worlds n t ++ worlds_all (n + size t) ts
