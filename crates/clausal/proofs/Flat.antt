-- A tree laid out in preorder as the worlds of a model.
use Rattle.std.proofs.Common.{◌≡◌, ℕ, suc, ◌+◌, ◌<◌, ◌≤◌, true, ◌&&◌, ltb, List, [], ◌∷◌, ◌++◌, length, sym, refl, ap, ◌∙◌, subst, ap₂, append_assoc, arith, length-append}
use lib.Seq.{append_snoc}
use Rattle.std.proofs.lemmas.Bool.{and_from, lt-ltb}
use Rattle.std.proofs.lemmas.List.{get_or_at, append-nil}
use Rattle.clausal.specs.Trees.{Forest, Tree, more, node, none, roots, size, sizes, worlds, worlds_all}
use Rattle.lists.proofs.Members.{every_append}
use Rattle.lists.specs.Lists.{every}
use Rattle.modal.specs.Kripke.{Model, World, bare, world}

mutual
  pub worlds_length : (n : ℕ) (t : Tree) → length (worlds n t) ≡ size t
  worlds_length n (node v ts) = ap suc (worlds_all_length (suc n) ts)

  worlds_all_length : (n : ℕ) (ts : Forest) → length (worlds_all n ts) ≡ sizes ts
  worlds_all_length n none = refl
  worlds_all_length n (more t ts) = length-append (worlds n t) (worlds_all (n + size t) ts) ∙ ap₂ (λ a b. a + b) (worlds_length n t) (worlds_all_length (n + size t) ts)

abbrev mutual
  -- the tree stands among the worlds from number n on
  pub Sits : List World → ℕ → Tree → Type 0
  Sits ws n (node v ts) = (world ws n ≡ record { letters = λ a. ltb a 15 && v a; successors = roots (suc n) ts }) × SitsAll ws (suc n) ts

  pub SitsAll : List World → ℕ → Forest → Type 0
  SitsAll ws n none = Unit {0}
  SitsAll ws n (more t ts) = Sits ws n t × SitsAll ws (n + size t) ts

mutual
  sits : (t : Tree) (n : ℕ) (front back : List World) → length front ≡ n → Sits (front ++ (worlds n t ++ back)) n t
  sits (node v ts) n front back e = (get_or_at front _ _ bare n e, subst (λ ws. SitsAll ws (suc n) ts) (append_snoc front _ (worlds_all (suc n) ts ++ back)) (sits_all ts (suc n) (front ++ (_ ∷ [])) back (simp length-append (omega arith))))

  sits_all : (ts : Forest) (n : ℕ) (front back : List World) → length front ≡ n → SitsAll (front ++ (worlds_all n ts ++ back)) n ts
  sits_all none n front back e = tt
  sits_all (more t ts) n front back e =
      let rest = worlds_all (n + size t) ts in
      let q : front ++ (worlds n t ++ (rest ++ back)) ≡ front ++ ((worlds n t ++ rest) ++ back) = ap (λ z. front ++ z) (sym (append_assoc (worlds n t) rest back)) in
      (subst (λ ws. Sits ws n t) q (sits t n front (rest ++ back) e), subst (λ ws. SitsAll ws (n + size t) ts) (append_assoc front (worlds n t) (rest ++ back) ∙ q) (sits_all ts (n + size t) (front ++ worlds n t) back (length-append front (worlds n t) ∙ ap₂ (λ a b. a + b) e (worlds_length n t))))

-- a tree stands in its own layout
pub sits_alone : (t : Tree) → Sits (worlds 0 t) 0 t
sits_alone t = subst (λ ws. Sits ws 0 t) (append-nil (worlds 0 t)) (sits t 0 [] [] refl)

pub size_pos : (t : Tree) → 0 < size t
size_pos (node v ts) = omega arith

roots_below : (ts : Forest) (n b : ℕ) → n + sizes ts ≤ b → every (λ v. ltb v b) (roots n ts) ≡ true
roots_below none n b h = refl
roots_below (more t ts) n b h = and_from _ _ (lt-ltb n b (omega (arith, size_pos t))) (roots_below ts (n + size t) b (omega arith))

mutual
  -- every successor in a layout is one of its worlds
  pub inside : (t : Tree) (n b : ℕ) → n + size t ≤ b → every (λ w. every (λ v. ltb v b) w.successors) (worlds n t) ≡ true
  inside (node v ts) n b h = and_from _ _ (roots_below ts (suc n) b (omega arith)) (inside_all ts (suc n) b (omega arith))

  inside_all : (ts : Forest) (n b : ℕ) → n + sizes ts ≤ b → every (λ w. every (λ v. ltb v b) w.successors) (worlds_all n ts) ≡ true
  inside_all none n b h = refl
  inside_all (more t ts) n b h = every_append _ (worlds n t) (worlds_all (n + size t) ts) (inside t n b (omega arith)) (inside_all ts (n + size t) b (omega arith))

-- the tree as a model
abbrev pub model_of : Tree → Model
model_of t = record { worlds = worlds 0 t; inhabited = omega (arith, worlds_length 0 t, size_pos t); inside = inside t 0 (length (worlds 0 t)) (omega (arith, worlds_length 0 t)) }
