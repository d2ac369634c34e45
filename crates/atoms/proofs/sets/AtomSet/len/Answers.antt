use Rattle.std.proofs.Common.{arith}
use Rattle.atoms.proofs.Counts.{count_ones}
use Rattle.atoms.proofs.sets.AtomSet.len.Goals as goal

pub returns : goal.returns
returns c = count_ones 64 c.args.self.bits (omega arith)
