use Rattle.std.proofs.Common.{arith}
use Rattle.engine.proofs.Turning.{letters_cut}
use Rattle.engine.proofs.steps.letters.Goals as goal

pub returns : goal.returns
returns c = letters_cut c.args.valuation c.intersection.result (omega arith) c.intersection.ensures
