use Rattle.std.proofs.Common.{refl, ap, ◌∙◌, []}
use Rattle.atoms.specs.Clauses.{clause_from, with_literal}
use Rattle.session.proofs.Fitting.{level_defined, level_at, started}
use Rattle.session.proofs.defining.start.Goals as goal

pub loop-level-preserved : goal.loop-level-preserved
loop-level-preserved g c = level_defined _ _ _ _ _ _ _ c.loop-level.invariant (level_at c.loop-level.level-index c.level-item.result c.loop-level-test.true) refl c.define.ensures

pub returns : goal.returns
returns g c = started _ _ _ _ c.requires c.loop-level-test.false c.loop-level.auto.level-index-end c.loop-level.invariant (c.with-first.ensures ∙ ap (with_literal (clause_from [])) c.positive.ensures)
