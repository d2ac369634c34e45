-- For proofs alone: a branch of the tableau: what is asked of a world, and whether some world of some Kripke model is so.
use Rattle.std.specs.Prelude.{◌≡◌, ℕ, ◌+◌, ◌<◌, Bool, true, false, List, [], ◌∷◌, length}
use Rattle.lists.specs.Lists.{every, some, In}
use Rattle.modal.specs.Kripke.{World, Model, world}
use Rattle.tableau.specs.Claims.{SignedFormula, holds, agrees, weight, claims_of, letters_of, opposite, plainly}
use Rattle.modal.specs.Rows.{says}
use Rattle.modal.specs.declared.row.Row.{Row}
use Rattle.tableau.specs.declared.claims.SignedLetter.{SignedLetter}
use Rattle.tableau.specs.declared.linked.Claims.{Claims}
use Rattle.tableau.specs.declared.branches.Settled.{Settled}

-- claims on the world, signed letters that are right there, claims on each successor, and claims on some successor each
pub record Branch : Type 0 where
  pub claims : List SignedFormula
  pub letters : List SignedLetter
  pub everywhere : List SignedFormula
  pub somewhere : List SignedFormula

-- world number w is as the branch asks
pub record Fulfils (b : Branch) (ws : List World) (w : ℕ) : Type 0 where
  pub claims : every (λ s. holds s ws w) b.claims ≡ true
  pub letters : every (λ l. agrees l (world ws w)) b.letters ≡ true
  pub everywhere : every (λ s. every (holds s ws) (world ws w).successors) b.everywhere ≡ true
  pub somewhere : every (λ s. some (holds s ws) (world ws w).successors) b.somewhere ≡ true

-- some world of some Kripke model is as the branch asks
pub record OpenBranch (b : Branch) : Type 0 where
  pub model : Model
  pub number : ℕ
  pub inside : number < length model.worlds
  pub fulfils : Fulfils b model.worlds number

-- the answer is right: some world is as the branch asks, or none is
abbrev pub DecidesBranch : Branch → Bool → Type 0
DecidesBranch b met = (met ≡ true → OpenBranch b) × (met ≡ false → OpenBranch b → ⊥)

-- a branch with only claims on the world
abbrev pub asks : List SignedFormula → Branch
asks cs = record { claims = cs; letters = []; everywhere = []; somewhere = [] }

-- each of the claims is right at some world, where the claims bs are right as well
abbrev pub AllOpen : List SignedFormula → List SignedFormula → Type 0
AllOpen bs [] = Unit {0}
AllOpen bs (d ∷ ds) = OpenBranch (asks (d ∷ bs)) × AllOpen bs ds

-- the answer is right: each of the claims is so, or not each
abbrev pub DecidesAll : List SignedFormula → List SignedFormula → Bool → Type 0
DecidesAll bs ds met = (met ≡ true → AllOpen bs ds) × (met ≡ false → AllOpen bs ds → ⊥)

-- no letter is both true and false
abbrev pub Consistent : List SignedLetter → Type 0
Consistent ls = (l : SignedLetter) → In l ls → In (opposite l) ls → ⊥

-- the branch that the program works on
abbrev pub branch_of : Claims → Settled → Branch
branch_of claims settled = record {
  claims = claims_of claims;
  letters = letters_of settled.letters.now;
  everywhere = claims_of settled.everywhere.now;
  somewhere = claims_of settled.somewhere.now;
}

-- the weight of claims on the world, and of claims on successors
abbrev pub weights : List SignedFormula → ℕ
weights [] = 0
weights (s ∷ ss) = weight s.formula + weights ss

abbrev pub weights_beyond : List SignedFormula → ℕ
weights_beyond [] = 0
weights_beyond (s ∷ ss) = weight s.formula + 1 + weights_beyond ss

-- the claims and, before them, what each of the rules says, the last rule first
abbrev pub all_said : List (List Row) → List SignedFormula → List SignedFormula
all_said [] cs = cs
all_said (rows ∷ rules) cs = all_said rules (plainly (says rows) ∷ cs)
