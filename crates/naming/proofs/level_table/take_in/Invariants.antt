use Rattle.std.proofs.Common.{◌≡◌, ℕ, suc, ◌<◌, ◌≤◌, [], length}
use Rattle.fixed_list.specs.Items.{items_of}
use Rattle.naming.specs.Levels.{lists_at, names_at}
use Rattle.naming.specs.Tables.{definitions_at}
use Rattle.naming.specs.TakenIn.{TakenAt}
use Rattle.naming.proofs.level_table.take_in.Given as goal

-- the levels from this one on are done, those before it are left, with no definitions, and further are the names here
abbrev pub invariant-loop-level : goal.invariant-loop-level
invariant-loop-level l = record {
  done : (k : ℕ) → l.level ≤ k → TakenAt l.rule.number l.rule.rows.now k (names_at l.levels (suc k)) (lists_at l.initial.levels k) (lists_at l.levels k) (definitions_at l.definitions k);
  left : (k : ℕ) → k < l.level → lists_at l.levels k ≡ lists_at l.initial.levels k;
  none : (k : ℕ) → k < l.level → definitions_at l.definitions k ≡ [];
  size : length l.definitions.levels ≡ 8;
  further : items_of l.further ≡ names_at l.levels l.level;
}
