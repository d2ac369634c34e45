use Rattle.clausal.proofs.Soundness.{definition_true}
use Rattle.clausal.proofs.laws.definitions_forced.Goals as goal

pub returns : goal.returns
returns c = λ st cl l e i u m w h. definition_true st cl l u m.worlds w e i
