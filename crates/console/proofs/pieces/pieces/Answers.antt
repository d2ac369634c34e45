use Rattle.std.proofs.Common.{ℕ, List, subst}
use Rattle.console.specs.Splitting.{Found}
use Rattle.console.proofs.Splitting.{row_found}
use Rattle.console.proofs.pieces.pieces.Goals as goal

pub loop-kind-preserved-in-Ok-None-default : goal.loop-kind-preserved-in-Ok-None-default
loop-kind-preserved-in-Ok-None-default c =
    let row = c.in-Ok-None-default in
    let so_far = subst (λ (rest : List ℕ). Found c.args.input.now c.loop-kind.found.items c.loop-kind.start rest) c.in-Some.ensures.cases.0 c.loop-kind.invariant in
    row_found c.args.input.now c.loop-kind.found.items c.loop-kind.start c.in-Some.kind.now c.in-Some.bytes.now so_far row.behind.now row.field-0-0 row.ensures row.field-0-0-is
