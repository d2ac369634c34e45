use Rattle.std.proofs.Common.{not, ap, ◌∙◌, arith}
use Rattle.std.proofs.Math.Bool.{not-not}
use Rattle.atoms.specs.Sets.{has, some_below}
use Rattle.atoms.proofs.Members.{has_high}
use Rattle.atoms.proofs.Below.{empty_none}
use Rattle.atoms.proofs.Making.{makes_some}
use Rattle.atoms.proofs.clauses.Clause.holds.Goals as goal

pub returns : goal.returns
returns c =
    ap not (empty_none 64 (has c.union.result) c.is_empty.result (λ i l. has_high 64 c.union.result.bits i (omega arith) l) c.is_empty.ensures.all c.is_empty.ensures.some)
    ∙ not-not (some_below 64 (has c.union.result))
    ∙ makes_some (has c.args.valuation) c.args.self (has c.union.result)
    (λ i. let a = c.union.ensures i in let b = c.intersection-plain.ensures i in let d = c.difference-negated.ensures i in cc)
