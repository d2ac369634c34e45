use Rattle.law.proofs.Leading.{led_sound}
use Rattle.law.proofs.laws.sessions_sound.Goals as goal

pub returns : goal.returns
returns c = λ h st led. led_sound led
