use Rattle.std.proofs.Common.{◌-◌, length}
use Rattle.page.proofs.drawing.+world.Given as goal

abbrev pub decreases-world : goal.decreases-world
decreases-world g l = length l.tree.now - l.number
