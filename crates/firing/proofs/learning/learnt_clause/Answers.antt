use Rattle.std.proofs.Common.{rules, tests, sym, ◌∙◌, arith}
use Rattle.std.proofs.lemmas.Iterator.{YieldsList-from_slice}
use Rattle.std.proofs.lemmas.Iterator.Consumers.{YieldsList-at, YieldsList-from_copied, YieldsList-from_filter, YieldsList-end}
use Rattle.std.proofs.lemmas.List.{map-id}
use Rattle.atoms.specs.Sets.{has}
use Rattle.firing.proofs.Choosing.{chosen_fired}
use Rattle.firing.proofs.learning.learnt_clause.Goals as goal

pub returns : goal.returns
returns c =
    let v = c.args.valuation in
    let e = YieldsList-end (YieldsList-at c.into_iter-fired-iterator.ensures.into_iter_gives (YieldsList-from_filter _ (λ m. has v m.name) (YieldsList-at c.filter-fired-items.ensures.source (YieldsList-from_copied (YieldsList-at c.copied.ensures.source (YieldsList-from_slice c.args.boxes.now c.iter.ensures.rest)))) c.filter-fired-items.ensures.closure (λ x r q k. search (rules, tests))))
    c.loop-fired.yielded _ c.loop-fired.yielded_by _ _ c.in-None.is c.next.ensures.steps in
    chosen_fired v (omega arith) c.args.boxes.now c.args.diamond c.args.core c.loop-fired.uncovered c.loop-fired.yielded c.loop-fired.clause (sym (map-id _) ∙ e.0) c.loop-fired.invariant
