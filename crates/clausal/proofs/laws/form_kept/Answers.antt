use Rattle.clausal.proofs.Kept.{fresh_clausal, adds_clausal}
use Rattle.clausal.proofs.laws.form_kept.Goals as goal

pub returns : goal.returns
returns c = record { begun = fresh_clausal; kept = λ st rows after cl a. adds_clausal st rows after a cl }
