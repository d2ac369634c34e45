use Rattle.std.proofs.Common.{arith}
use Rattle.atoms.proofs.Lowest.{has_lowest, not_zero}
use Rattle.atoms.proofs.sets.AtomSet.lowest.Goals as goal

pub returns : goal.returns
returns c =
    let l = has_lowest 64 c.args.self.bits (not_zero c.args.self.bits c.is_empty.result c.is_empty.ensures.some c.if-is_empty.false) (omega arith) in
    record { small = l.within; member = l.member; first = l.first }
