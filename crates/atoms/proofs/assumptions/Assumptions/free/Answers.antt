use Rattle.std.proofs.Common.{Bool, not, ◌&&◌, ap, ◌∙◌, arith}
use Rattle.atoms.specs.Assuming.{settled}
use Rattle.atoms.proofs.Obeying.{undecided_of}
use Rattle.atoms.proofs.assumptions.Assumptions.free.Goals as goal

pub returns : goal.returns
returns c i =
    undecided_of c.args.self c.named.result c.undecided.result c.intersection.result (omega arith) c.undecided.ensures c.intersection.ensures i
    ∙ ap (λ (b : Bool). b && not (settled c.args.self i)) (c.named.ensures i)
