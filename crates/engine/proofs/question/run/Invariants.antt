use Rattle.std.proofs.Common.{◌≡◌, length}
use Rattle.engine.specs.Steps.{outset, KeepsAll, TurnStarts}
use Rattle.engine.specs.Termination.{measure}
use Rattle.engine.specs.declared.frames.Turn.TheVariants.{Go}
use Rattle.engine.proofs.question.run.Given as goal
use Rattle.stack.specs.Entries.{entries_of}

-- the turns so far have kept the bounds, and what was known of the worlds when they began
abbrev pub invariant-loop-next : goal.invariant-loop-next
invariant-loop-next g l =
    TurnStarts l.stack l.at × KeepsAll l.table (g.O.Oracle.entries l.initial.oracle) (entries_of l.initial.stack) l.initial.sheet outset (g.O.Oracle.entries l.oracle) (entries_of l.stack) l.sheet (Go l.at) × (length l.sheet ≡ length l.initial.sheet)

abbrev pub decreases-loop-next : goal.decreases-loop-next
decreases-loop-next g l = measure (g.O.Oracle.entries l.oracle) (entries_of l.stack) l.at
