use Rattle.std.proofs.Common.{rules}
use Rattle.oracle.specs.Oracles.{Finds}
use Rattle.search.proofs.Soundness.{from_finds}
use Rattle.search.proofs.SearcherOracle.solve.Goals as goal

pub returns-clause-solves : goal.returns-clause-solves
returns-clause-solves c =
    let f : Finds c.entries-entries.result.now c.args.under c.search.result =
    from_finds _ c.args.under c.search.result (record { trail = c.start-trail.result; started = c.start-trail.ensures; found = c.search.ensures.order }) in
    search rules
