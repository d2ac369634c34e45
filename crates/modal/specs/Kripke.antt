-- Modal logic K: formulas, finite Kripke models, and truth at a world.
use Rattle.std.specs.Prelude.{◌≡◌, ℕ, ◌<◌, Bool, true, false, not, ◌&&◌, ◌||◌, List, [], length, nat_lt, slice_index_or}
use Rattle.lists.specs.Lists.{every, some}

pub data Formula : Type 0 where
  falsum : Formula
  verum : Formula
  letter : ℕ → Formula
  neg : Formula → Formula
  conj : Formula → Formula → Formula
  disj : Formula → Formula → Formula
  box : Formula → Formula
  dia : Formula → Formula

-- a world: the letters that are true there, and the numbers of its successors
pub record World : Type 0 where
  pub letters : ℕ → Bool
  pub successors : List ℕ

-- a number past the last world stands for a world with nothing in it; no model has such a successor
abbrev pub bare : World
bare = record { letters = λ _. false; successors = [] }

abbrev pub world : List World → ℕ → World
world ws w = slice_index_or ws w bare

-- is the formula true at world number w?
abbrev pub meets : Formula → List World → ℕ → Bool
meets falsum ws w = false
meets verum ws w = true
meets (letter a) ws w = (world ws w).letters a
meets (neg f) ws w = not (meets f ws w)
meets (conj f g) ws w = meets f ws w && meets g ws w
meets (disj f g) ws w = meets f ws w || meets g ws w
meets (box f) ws w = every (meets f ws) (world ws w).successors
meets (dia f) ws w = some (meets f ws) (world ws w).successors

-- a Kripke model: at least one world, and every successor is one of the worlds; loops are allowed
pub record Model : Type 0 where
  pub worlds : List World
  pub inhabited : 0 < length worlds
  pub inside : every (λ w. every (λ v. nat_lt v (length worlds)) w.successors) worlds ≡ true
