-- What holds of any two outputs of the same input.
use Rattle.std.specs.Prelude.{ℕ, List}
use Rattle.law.specs.Runs.{AgreeAll}
use Rattle.console.specs.Lines.{LinesOf}
use Rattle.console.specs.declared.lines.Line.{Line}

-- over whatever oracles, no reply contradicts the other at the same call
abbrev pub OraclesAgree : Type 0
OraclesAgree = (input : List ℕ) (ls ms : List Line) (s : LinesOf input ls) (t : LinesOf input ms) → AgreeAll s.history t.history
