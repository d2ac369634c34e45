-- Worlds of a Kripke model.
use Rattle.std.proofs.Common.{ℕ, ◌<◌, length}
use Rattle.std.proofs.lemmas.Bool.{ltb-true}
use Rattle.lists.specs.Lists.{In}
use Rattle.lists.proofs.Members.{every_in, get_or_in}
use Rattle.modal.specs.Kripke.{Model, world, bare}

-- a successor of a world of a model is a world of the model
pub successor_inside : (m : Model) (w x : ℕ) → w < length m.worlds → In x (world m.worlds w).successors → x < length m.worlds
successor_inside m w x h i = ltb-true x (length m.worlds) (every_in _ i (every_in _ (get_or_in m.worlds w bare h) m.inside))
