use Rattle.std.proofs.Common.{refl}
use Rattle.law.proofs.Answering.{answer_open}
use Rattle.law.proofs.laws.open_from_tree.Goals as goal

pub returns : goal.returns
returns c = λ st asked es q t whole. answer_open st q.sound es q.learns q.few asked q.held t whole _ refl
