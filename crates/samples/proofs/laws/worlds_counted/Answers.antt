use Rattle.samples.proofs.Counting.{counted}
use Rattle.samples.proofs.laws.worlds_counted.Goals as goal

pub returns : goal.returns
returns c = counted
