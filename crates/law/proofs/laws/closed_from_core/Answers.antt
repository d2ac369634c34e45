use Rattle.law.proofs.Answering.{answer_closed}
use Rattle.law.proofs.laws.closed_from_core.Goals as goal

pub returns : goal.returns
returns c = λ st asked es q core k. answer_closed st q.sound es q.learns q.few asked q.held core k.inside k.unsatisfiable
