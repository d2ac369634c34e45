use Rattle.session.proofs.Fitting.{level_defined, level_at, rule_defined}
use Rattle.session.proofs.defining.define_rule.Goals as goal

pub loop-level-preserved : goal.loop-level-preserved
loop-level-preserved g c = level_defined _ _ _ _ _ _ _ c.loop-level.invariant (level_at c.loop-level.level-index c.level-item.result c.loop-level-test.true) c.at.ensures c.define.ensures

pub returns : goal.returns
returns g c = rule_defined _ _ _ _ c.loop-level-test.false c.loop-level.auto.level-index-end c.loop-level.invariant
