use Rattle.tableau.proofs.Steps.{comes_to}
use Rattle.tableau.proofs.claims.Claim.step.Goals as goal

pub returns : goal.returns
returns c = rw c.step_on.ensures (comes_to c.args.self.now c.own_row.result c.own_row.ensures.lawful c.own_row.ensures.value)
