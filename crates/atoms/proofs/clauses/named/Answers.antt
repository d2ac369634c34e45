use Rattle.std.proofs.Common.{List, ap, ◌∙◌}
use Rattle.std.proofs.lemmas.List.{take_all}
use Rattle.std.proofs.lemmas.List.Folds.{list_any_more}
use Rattle.atoms.specs.Clauses.{names, has_atom}
use Rattle.atoms.specs.declared.clauses.Entry.{Entry}
use Rattle.atoms.proofs.Members.{has_none}
use Rattle.atoms.proofs.Making.{blank}
use Rattle.atoms.proofs.clauses.named.Goals as goal

pub loop-entry-init : goal.loop-entry-init
loop-entry-init c i = has_none i

pub loop-entry-preserved : goal.loop-entry-preserved
loop-entry-preserved c i =
    let a = c.union-all.ensures i in
    let b = c.atoms.ensures i in
    let d = c.loop-entry.invariant i in
    let e = list_any_more (λ (e : Entry). has_atom e.clause i) c.args.entries.now c.loop-entry.entry-index blank c.loop-entry-test.true in
    cc

pub returns : goal.returns
returns c i = c.loop-entry.invariant i ∙ ap (λ (es : List Entry). names es i) (take_all _ _ c.loop-entry-test.false)
