use Rattle.std.proofs.Common.{[], ◌∷◌, rules, tests}
use Rattle.std.proofs.lemmas.Iterator.{YieldsList-from_slice}
use Rattle.std.proofs.lemmas.Iterator.Consumers.{YieldsList-at, YieldsList-from_filter}
use Rattle.atoms.specs.Sets.{has}
use Rattle.atoms.proofs.Members.{has_none}
use Rattle.clausal.specs.States.{literals}
use Rattle.firing.specs.Firing.{AssumesJust}
use Rattle.firing.proofs.Folding.{fold_keeps}
use Rattle.firing.proofs.Gathering.{stands_none, stands_more, part_more}
use Rattle.firing.proofs.firing.part.Goals as goal

pub returns : goal.returns
returns c =
    let x = c.args.diamond in
    fold_keeps _ (λ ms w. AssumesJust w (x ∷ literals ms)) _ _ c.fold.ensures.ran
    (YieldsList-from_filter _ (λ m. has c.args.valuation m.name) (YieldsList-at c.filter.ensures.source (YieldsList-from_slice c.args.boxes.now c.iter.ensures.rest)) c.filter.ensures.closure (λ x r q k. search (rules, tests)))
    (stands_more _ _ [] x (stands_none _ has_none has_none) c.with.ensures) (λ ms w y r f k q. (part_more w r x ms y.now k (search rules), search rules))
