use Rattle.std.proofs.Common.{arith}
use Rattle.atoms.proofs.Members.{has_minus}
use Rattle.atoms.proofs.sets.AtomSet.difference.Goals as goal

pub returns : goal.returns
returns c i = has_minus c.args.self.bits c.args.b.bits i (omega arith) (omega arith)
