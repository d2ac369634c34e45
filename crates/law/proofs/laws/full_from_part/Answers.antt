use Rattle.law.proofs.Answering.{answer_full}
use Rattle.law.proofs.laws.full_from_part.Goals as goal

pub returns : goal.returns
returns c = λ st asked es q l f. answer_full st q.sound es q.learns q.few asked q.held l f.literals f.core f.valuation f.diamond f.many f.reached f.allowed f.fires f.found
