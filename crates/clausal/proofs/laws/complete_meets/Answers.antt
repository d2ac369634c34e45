use Rattle.clausal.proofs.Truth.{root_meets}
use Rattle.clausal.proofs.laws.complete_meets.Goals as goal

pub returns : goal.returns
returns c = root_meets
