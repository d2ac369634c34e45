use Rattle.std.proofs.Common.{◌≡◌, ◌+◌, ◌-◌, [], length}
use Rattle.stack.specs.Entries.{entries_of}
use Rattle.naming.specs.Marks.{count_of_marks}
use Rattle.naming.specs.Walk.{WalkInvariant}
use Rattle.naming.proofs.reached.ReachedRule.new.Given as goal

abbrev pub invariant-loop-n : goal.invariant-loop-n
invariant-loop-n l = record {
  walk : WalkInvariant l.walk.rows.now [] l.walk.marks (entries_of l.walk.todo);
  rows : l.walk.rows.now ≡ l.initial.walk.rows.now;
}

abbrev pub decreases-loop-n : goal.decreases-loop-n
decreases-loop-n l = 1024 - count_of_marks l.walk.marks + length (entries_of l.walk.todo)
