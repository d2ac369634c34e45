use Rattle.std.proofs.Common.{arith}
use Rattle.naming.proofs.TableReads.{diamonds_read}
use Rattle.naming.proofs.table.Table.diamonds.Goals as goal

pub returns-clause-orderly : goal.returns-clause-orderly
returns-clause-orderly c = diamonds_read c.args.self.now c.args.level _ _ _ c.as_slice.ensures.items c.from.ensures.0 (omega arith)
