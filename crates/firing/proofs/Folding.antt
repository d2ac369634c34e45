-- What a fold over a chain of calls answers, where each call keeps a relation between the items so far and the value.
use Rattle.std.proofs.Common.{◌≡◌, List, [], ◌∷◌, ◌++◌}
use Rattle.std.specs.Prelude.{Option}
use Rattle.std.specs.Fn.{Called}
use Rattle.std.specs.Iterator.{Drains}
use Rattle.std.specs.List.{FoldsTo}
use Rattle.std.proofs.lemmas.Fn.{fold_over}
use Rattle.std.proofs.lemmas.Iterator.{YieldsList}
use denote.Param.Members.{Mut}

pub fold_keeps : {S A B C F : Type 0} {steps : S → Option A → S → Type 0} {v : A → B} {s : S} {all : List B} (g : Mut F (C × (A × Unit {0})) C) (J : List B → C → Type 0) {f : F} (init r : C)
    → ((xs : List A) × (q : F) × Drains steps s xs × FoldsTo {P = F × C} (λ a x b. Called g a.0 (a.1, (x, tt)) b.1 b.0) (f, init) xs (q, r)) → YieldsList steps v s all → J [] init
    → ((xs : List B) (a : C) (x : A) (b : C) (q : F) → J xs a → Called g f (a, (x, tt)) b q → J (xs ++ (v x ∷ [])) b × (q ≡ f)) → J all r
fold_keeps {steps = steps} {v = v} {s = s} {all = all} g J {f} init r ran k start step = fold_over steps v g J f step s all init r k.runs start ran
