use Rattle.std.proofs.Common.{rules, tests, arith}
use Rattle.std.proofs.lemmas.Iterator.{YieldsList-from_slice}
use Rattle.std.proofs.lemmas.Iterator.Consumers.{YieldsList-at, YieldsList-from_filter}
use Rattle.atoms.specs.Sets.{has}
use Rattle.firing.proofs.Folding.{fold_keeps}
use Rattle.firing.proofs.Gathering.{Gathers, gathers_none, gathers_more, gathered}
use Rattle.firing.proofs.firing.fired_names.Goals as goal

pub returns : goal.returns
returns c =
    let v = c.args.valuation in
    gathered v _ c.args.clauses.now (omega arith)
    (fold_keeps _ (λ ds s. Gathers s ds) _ _ c.fold.ensures.ran
    (YieldsList-from_filter _ (λ m. has v m.name) (YieldsList-at c.filter.ensures.source (YieldsList-from_slice c.args.clauses.now c.iter.ensures.rest)) c.filter.ensures.closure (λ x r q k. search (rules, tests)))
    gathers_none (λ ds s x r f k q. (gathers_more s r ds x.now k (search rules), search rules)))
