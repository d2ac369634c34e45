-- A question is what its turns come to.
use Rattle.std.proofs.Common.{◌≡◌, List, length}
use Rattle.atoms.specs.declared.assumptions.Assumptions.{Assumptions}
use Rattle.engine.specs.Outcomes.{Questioned}
use Rattle.engine.specs.Steps.{fresh, outset, tidied, KeepsAll}
use Rattle.engine.specs.declared.frames.Frame.{Frame}
use Rattle.engine.specs.declared.outcome.Outcome.{Outcome}
use Rattle.engine.specs.declared.frames.Turn.TheVariants.{Done}
use Rattle.naming.specs.declared.table.Table.{Table}
use Rattle.oracle.specs.Oracles.{Lists}
use Rattle.sheet.specs.declared.row.SheetRow.{SheetRow}
use Rattle.engine.specs.Worlds.{frame_at}
use Rattle.engine.proofs.Holding.{first_holds}

-- the last turn, and the sheet tidied
pub questioned : (t : Table) (es es' : Lists) (fs gs : List Frame) (sheet sheet' final : List SheetRow) (under : Assumptions) (o : Outcome) → frame_at fs 0 ≡ fresh under 0 0 → KeepsAll t es fs sheet outset es' gs sheet' (Done o) → length sheet' ≡ length sheet → final ≡ tidied o sheet' → Questioned t es es' under sheet final o
questioned t es es' fs gs sheet sheet' final under o is k long tidy st xs same assumed small =
    let a = k st xs same.clauses (first_holds t es fs sheet under is st xs same assumed small) in
    rw (tidy, ← long) a
