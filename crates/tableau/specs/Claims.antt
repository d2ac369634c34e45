-- For proofs alone: claims on a world: a formula that is said or denied there, what a claim comes down to, and lists of claims.
use Rattle.std.specs.Prelude.{◌≡◌, ℕ, ◌+◌, ◌<◌, Bool, true, false, cond, not, ◌&&◌, ◌||◌, List, [], ◌∷◌}
use Rattle.lists.specs.Lists.{every, some}
use Rattle.modal.specs.Kripke.{Formula, falsum, verum, letter, neg, conj, disj, box, dia, World, world, meets}
use Rattle.modal.specs.Rows.{formula_at, forms}
use Rattle.modal.specs.Rules.{rows_of}
use Rattle.modal.specs.declared.row.Row.{Row}
use Rattle.modal.specs.declared.row.Row.TheVariants.{False, True, Not, And, Or, Box, Diamond}
use Rattle.modal.specs.declared.row.Row.TheVariants as row
use Rattle.tableau.specs.declared.claims.Claim.{Claim}
use Rattle.tableau.specs.declared.claims.SignedLetter.{SignedLetter}
use Rattle.tableau.specs.declared.claims.Step.{Step}
use Rattle.tableau.specs.declared.claims.Step.TheVariants.{Never, Always, Letter, Same, Both, Either, Everywhere, Somewhere}
use Rattle.tableau.specs.declared.linked.Claims.{Claims}
use Rattle.tableau.specs.declared.linked.Claims as claims
use Rattle.tableau.specs.declared.linked.SignedLetters.{SignedLetters}
use Rattle.tableau.specs.declared.linked.SignedLetters as letters

-- plus says the formula, minus denies it
pub record SignedFormula : Type 0 where
  pub plus : Bool
  pub formula : Formula

abbrev pub plainly : Formula → SignedFormula
plainly f = record { plus = true; formula = f }

abbrev pub claimed : Claim → SignedFormula
claimed c = record { plus = c.plus; formula = formula_at (forms (rows_of c.rule.now)) c.row }

-- is the claim right at world number w?
abbrev pub holds : SignedFormula → List World → ℕ → Bool
holds s ws w = cond s.plus (meets s.formula ws w) (not (meets s.formula ws w))

abbrev pub agrees : SignedLetter → World → Bool
agrees l x = cond l.plus (x.letters l.letter) (not (x.letters l.letter))

abbrev pub opposite : SignedLetter → SignedLetter
opposite l = record { letter = l.letter; plus = not l.plus }

-- what a claim comes down to by its row: under minus, and and or change places, and so do box and diamond
abbrev pub on : Claim → ℕ → Bool → Claim
on c k plus = record c { row = k; plus = plus }

abbrev pub step_of : Claim → Row → Step
step_of c False = cond c.plus Never Always
step_of c True = cond c.plus Always Never
step_of c (row.Letter a) = Letter (record { letter = a; plus = c.plus })
step_of c (Not k) = Same (on c k (not c.plus))
step_of c (And k m) = cond c.plus (Both (on c k true) (on c m true)) (Either (on c k false) (on c m false))
step_of c (Or k m) = cond c.plus (Either (on c k true) (on c m true)) (Both (on c k false) (on c m false))
step_of c (Box k) = cond c.plus (Everywhere (on c k true)) (Somewhere (on c k false))
step_of c (Diamond k) = cond c.plus (Somewhere (on c k true)) (Everywhere (on c k false))

-- what a step says of world number w
abbrev pub step_holds : Step → List World → ℕ → Bool
step_holds Never ws w = false
step_holds Always ws w = true
step_holds (Letter l) ws w = agrees l (world ws w)
step_holds (Same c) ws w = holds (claimed c) ws w
step_holds (Both c d) ws w = holds (claimed c) ws w && holds (claimed d) ws w
step_holds (Either c d) ws w = holds (claimed c) ws w || holds (claimed d) ws w
step_holds (Everywhere c) ws w = every (holds (claimed c) ws) (world ws w).successors
step_holds (Somewhere c) ws w = some (holds (claimed c) ws) (world ws w).successors

-- the size of a formula as a tree, where a box or diamond counts as two
abbrev pub weight : Formula → ℕ
weight falsum = 1
weight verum = 1
weight (letter a) = 1
weight (neg f) = weight f + 1
weight (conj f g) = weight f + weight g + 1
weight (disj f g) = weight f + weight g + 1
weight (box f) = weight f + 2
weight (dia f) = weight f + 2

abbrev pub weight_of : Claim → ℕ
weight_of c = weight (claimed c).formula

abbrev pub step_weight : Step → ℕ
step_weight Never = 0
step_weight Always = 0
step_weight (Letter l) = 0
step_weight (Same c) = weight_of c
step_weight (Both c d) = weight_of c + weight_of d
step_weight (Either c d) = weight_of c + weight_of d
step_weight (Everywhere c) = weight_of c + 1
step_weight (Somewhere c) = weight_of c + 1

-- the step says just what the claim says, and is lighter
pub record ComesTo (s : SignedFormula) (step : Step) : Type 0 where
  pub same : (ws : List World) (w : ℕ) → holds s ws w ≡ step_holds step ws w
  pub lighter : step_weight step < weight s.formula

-- what a list of claims holds
abbrev pub claims_of : Claims → List SignedFormula
claims_of claims.Empty = []
claims_of (claims.More' c p rest) = claimed c ∷ claims_of rest

abbrev pub letters_of : SignedLetters → List SignedLetter
letters_of letters.Empty = []
letters_of (letters.More' l p rest) = l ∷ letters_of rest
