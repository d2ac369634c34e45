use Rattle.std.proofs.Common.{sym}
use Rattle.law.proofs.Leading.{led_agree}
use Rattle.law.proofs.laws.replies_agree.Goals as goal

pub returns : goal.returns
returns c = λ h st led k t other e. led_agree led other (sym e)
