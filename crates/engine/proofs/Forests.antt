-- A forest with one tree more at its end, and how many rows trees and forests have.
use Rattle.std.proofs.Common.{◌≡◌, ℕ, suc, ◌+◌, List, [], ◌∷◌, ◌++◌, length, sym, refl, ap, ◌∙◌, arith, length-append}
use Rattle.std.proofs.lemmas.List.{append-nil, append_assoc}
use Rattle.atoms.specs.declared.clauses.Literal.{Literal}
use Rattle.clausal.specs.States.{State}
use Rattle.clausal.specs.Trees.{Tree, node, Forest, none, more, Complete, CompleteAll, size, sizes}
use Rattle.clausal.specs.declared.modal_clauses.ModalClause.{ModalClause}
use Rattle.engine.specs.Drawing.{tree_rows, forest_rows}

-- one tree more at the end of a forest

unfoldable pub with_tree : Forest → Tree → Forest
with_tree none t = more t none
with_tree (more u us) t = more u (with_tree us t)

pub with_tree_whole : (st : State) (l : ℕ) (bs : List Literal) (ds : List ModalClause) (d : ModalClause) (ts : Forest) (t : Tree) → CompleteAll st l bs ds ts → Complete st l (d.literal ∷ bs) t → CompleteAll st l bs (ds ++ d ∷ []) (with_tree ts t)
unfolding with_tree
with_tree_whole st l bs ds d none t c k = (d, [], ap (λ zs. zs ++ d ∷ []) c, k, refl)
with_tree_whole st l bs ds d (more u us) t c k = (c.0, c.1 ++ d ∷ [], ap (λ zs. zs ++ d ∷ []) c.2, c.3, with_tree_whole st l bs c.1 d us t c.4 k)

mutual
  pub tree_length : (p l n : ℕ) (t : Tree) → length (tree_rows p l n t) ≡ size t
  tree_length p l n (node v ts) = ap suc (forest_length n (suc l) (suc n) ts)

  pub forest_length : (p l n : ℕ) (ts : Forest) → length (forest_rows p l n ts) ≡ sizes ts
  forest_length p l n none = refl
  forest_length p l n (more t ts) =
      let a = tree_length p l n t in
      let b = forest_length p l (n + size t) ts in
      length-append (tree_rows p l n t) (forest_rows p l (n + size t) ts) ∙ omega arith

pub with_tree_rows : (p l n : ℕ) (ts : Forest) (t : Tree) → forest_rows p l n (with_tree ts t) ≡ forest_rows p l n ts ++ tree_rows p l (n + sizes ts) t
unfolding with_tree
with_tree_rows p l n none t = append-nil (tree_rows p l n t) ∙ ap (λ (m : ℕ). tree_rows p l m t) (omega arith)
with_tree_rows p l n (more u us) t =
    ap (λ qs. tree_rows p l n u ++ qs) (with_tree_rows p l (n + size u) us t ∙ ap (λ (m : ℕ). forest_rows p l (n + size u) us ++ tree_rows p l m t) (omega arith))
    ∙ sym (append_assoc (tree_rows p l n u) (forest_rows p l (n + size u) us) (tree_rows p l (n + (size u + sizes us)) t))
