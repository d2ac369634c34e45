use Rattle.std.proofs.Common.{ℕ, ◌+◌, sym, subst, ◌∙◌}
use Rattle.session.specs.Assumed.{KeepsIn}
use Rattle.session.proofs.Numbered.{keeps_none, keeps_passed, keeps_more}
use Rattle.session.proofs.asking.kept_in.Goals.{then-keeps, else-keeps}
use Rattle.session.proofs.asking.kept_in.Goals as goal

pub loop-number-init : goal.loop-number-init
loop-number-init c = keeps_none c.args.table.now c.args.rules c.args.core

pub loop-number-preserved : goal.loop-number-preserved
loop-number-preserved c =
    let s = c.loop-number.invariant in
    let e = c.keeps.ensures in
    let K : ℕ → Type 0 = KeepsIn c.args.table.now c.args.rules c.args.core (c.loop-number.number + 1) in
    elim c.if-keeps.branch [
      | then-keeps w ↦ subst K (sym w.kept-is) (keeps_more c.args.table.now c.args.rules _ _ c.args.core s c.loop-number-test.true (e.asked w.if-keeps.true))
      | else-keeps w ↦ subst K (sym w.kept-is) (keeps_passed c.args.table.now c.args.rules _ _ c.args.core s (λ h. sym w.if-keeps.false ∙ e.held h))
    ]
