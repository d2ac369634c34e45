use Rattle.std.proofs.Common.{rules, List, sym, ◌∙◌}
use Rattle.atoms.specs.declared.clauses.Entry.{Entry}
use Rattle.atoms.proofs.Obeying.{obeys_follows, clash_never}
use Rattle.oracle.specs.Oracles.{Finds, Unsatisfiable}
use Rattle.exhaustive.proofs.Varying.{finds}
use Rattle.exhaustive.proofs.ExhaustiveOracle.solve.Goals as goal

pub returns-then-clashes-clause-solves : goal.returns-then-clashes-clause-solves
returns-then-clashes-clause-solves c =
    let u : (es : List Entry) → Unsatisfiable c.args.under es =
    λ es v o m. clash_never c.args.under (sym c.clashes.ensures.answer ∙ c.if-clashes.true) v (obeys_follows v c.args.under o) in
    search rules

pub returns-clause-solves : goal.returns-clause-solves
returns-clause-solves c =
    let f : Finds c.entries-entries.result.now c.args.under c.find.result =
    finds c.entries-entries.result.now c.args.under c.free.result c.find.result (c.clashes.ensures.apart c.if-clashes.false)
    c.free.ensures c.find.ensures in
    search rules
