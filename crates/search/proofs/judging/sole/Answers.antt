use Rattle.std.proofs.Common.{refl, ◌∙◌, eq-eqb}
use Rattle.std.proofs.lemmas.Bool.{both_ways}
use Rattle.search.proofs.judging.sole.Goals as goal

pub returns-in_err-atom : goal.returns-in_err-atom
returns-in_err-atom c = rw c.from_residual.ensures (λ a h. both_ways _ (c.in_err-atom.ensures a) (h.members a ∙ eq-eqb a a refl))
