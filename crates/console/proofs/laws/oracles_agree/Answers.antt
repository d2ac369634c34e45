use Rattle.console.proofs.Agreeing.{oracles_agree}
use Rattle.console.proofs.laws.oracles_agree.Goals as goal

pub returns : goal.returns
returns c = oracles_agree
