use Rattle.clausal.proofs.Soundness.{box_true, diamond_true}
use Rattle.clausal.proofs.laws.modal_clauses_read.Goals as goal

pub returns : goal.returns
returns c = λ st cl l u v m w h. record { boxes = λ b i t x j. box_true st cl l u m.worlds w b i t v x j; diamonds = λ d i t. diamond_true st cl l u m.worlds w d i t v }
