use Rattle.samples.proofs.Cases.{all_hold}
use Rattle.samples.proofs.laws.samples_hold.Goals as goal

pub returns : goal.returns
returns c = all_hold
