use Rattle.std.proofs.Common.{◌∙◌}
use Rattle.session.proofs.Fitting.{defined_more}
use Rattle.session.proofs.defining.define.Goals as goal

pub loop-clause-preserved : goal.loop-clause-preserved
loop-clause-preserved g c =
    let d = c.loop-clause.invariant in
    let t = c.take.ensures in
    record {
      others = λ k n. t.others k n ∙ d.others k n;
      here = defined_more (g.O.Oracle.entries c.args.oracle.now c.args.level) c.args.clauses.now c.loop-clause.clause-index _ c.loop-clause-test.true _ _ d.here _ t.when t.here;
    }
