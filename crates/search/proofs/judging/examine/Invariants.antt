use Rattle.std.proofs.Common.{drop}
use Rattle.search.specs.Judging.{FirstJudged}
use Rattle.search.specs.declared.status.Status.{Status}
use Rattle.search.proofs.judging.examine.Given as goal

-- what the trail makes of the entries that are left, it makes of all
abbrev pub invariant-loop-entry : goal.invariant-loop-entry
invariant-loop-entry l = (s : Status) → FirstJudged l.trail (drop l.entry-index l.entries) s → FirstJudged l.trail l.entries s
