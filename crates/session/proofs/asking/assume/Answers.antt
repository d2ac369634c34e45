use Rattle.session.proofs.Numbered.{assumes_none}
use Rattle.session.proofs.asking.assume.Goals as goal

pub loop-number-init : goal.loop-number-init
loop-number-init c = assumes_none c.args.table.now c.args.rules
