use Rattle.samples.proofs.Meeting.{met_tree}
use Rattle.samples.proofs.laws.met_has_tree.Goals as goal

pub returns : goal.returns
returns c = λ st cl asked known m w h met. met_tree st cl m asked known w h met
