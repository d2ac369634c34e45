use Rattle.std.proofs.Common.{arith}
use Rattle.oracle.proofs.Storing.{taken}
use Rattle.oracle.proofs.store.Store.take.Goals as goal

pub returns : goal.returns
returns c = taken c.args.self.now.levels c.from.result _ c.index-self-from.result _ c.args.entry c.take.result (omega arith) c.from.ensures.0 c.take.ensures.items c.take.ensures.when
