use Rattle.engine.proofs.Turning.{next_found}
use Rattle.engine.proofs.steps.next.Goals as goal

pub returns : goal.returns
returns c = next_found c.args.diamonds.now c.args.unvisited c.in_ok-lowest.field-0 c.named.result c.in_ok-lowest.ensures c.named.ensures
