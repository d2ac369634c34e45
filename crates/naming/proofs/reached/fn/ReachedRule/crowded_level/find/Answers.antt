use Rattle.std.proofs.Common.{ℕ, ◌+◌, ◌<◌, length, ltb, sym, ap, ◌∙◌, ap₂, arith}
use Rattle.naming.specs.Levels.{LevelLists, lists_at}
use Rattle.naming.specs.Order.{too_many_names}
use Rattle.naming.proofs.AtLevel.{level_read}
use Rattle.naming.proofs.reached.fn.ReachedRule.crowded_level.find.Goals as goal

pub returns : goal.returns
unfolding too_many_names
returns c =
    let h : c.from.result < length c.captures.levels.now = omega arith in
    ap₂ (λ (a b : ℕ). ltb 48 (a + b)) (c.len.ensures.count ∙ ap (λ (s : LevelLists). length s.names) (sym (level_read c.captures.levels.now c.from.result _ h) ∙ ap (lists_at c.captures.levels.now) c.from.ensures.0)) c.count_of_names.ensures.value
