use Rattle.std.proofs.Common.{arith}
use Rattle.atoms.proofs.Members.{has_others}
use Rattle.atoms.proofs.sets.AtomSet.complement.Goals as goal

pub returns : goal.returns
returns c i = has_others 64 c.args.self.bits i (omega arith)
