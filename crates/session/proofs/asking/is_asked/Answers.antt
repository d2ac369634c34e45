use Rattle.atoms.proofs.Members.{has_test}
use Rattle.session.proofs.asking.is_asked.Goals as goal

pub returns : goal.returns
returns c = has_test c.args.rules c.args.number
