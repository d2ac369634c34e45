-- For proofs alone: one piece carried out: what the functions below `lines` promise each other.
use Rattle.std.specs.Prelude.{◌≡◌, ℕ, ◌≤◌, List, Ok, Err, Result}
use Rattle.clausal.specs.States.{State}
use Rattle.law.specs.Calls.{Call, Reply}
use Rattle.law.specs.Runs.{CallLaw}
use Rattle.console.specs.Lines.{piece_call, refusal_line, Tells}
use Rattle.console.specs.declared.faults.ConsoleFault.{ConsoleFault}
use Rattle.console.specs.declared.faults.InputFault.{InputFault}
use Rattle.console.specs.declared.lines.Line.{Line}
use Rattle.console.specs.declared.pieces.Command.{Command}
use Rattle.console.specs.declared.pieces.Command.TheVariants.{Add, Ask, Forget}
use Rattle.console.specs.declared.pieces.Piece.{Piece}

-- the rows that are added stand before the command that adds them, and both within the input of n bytes
abbrev pub CommandWithin : ℕ → ℕ → Result Command InputFault → Type 0
CommandWithin n at (Ok (Add start)) = (start ≤ at) × (at ≤ n)
CommandWithin n at (Ok (Ask set)) = Unit {0}
CommandWithin n at (Ok Forget) = Unit {0}
CommandWithin n at (Err fault) = Unit {0}

abbrev pub Within : ℕ → Piece → Type 0
Within n p = CommandWithin n p.at p.read

-- a call leaves what it owes, and the line tells its reply; a fault has its line, and all is as it was
abbrev pub CallCarriedOut : Result Call ConsoleFault → State → Piece → Line → State → Type 0
CallCarriedOut (Ok c) before p line after = (r : Reply) × Tells p.at r line × CallLaw before c r after
CallCarriedOut (Err fault) before p line after = (line ≡ refusal_line p fault) × (after ≡ before)

-- a piece of the input is carried out: the call that it makes, if it makes one
abbrev pub CarriedOut : List ℕ → State → Piece → Line → State → Type 0
CarriedOut input before p line after = CallCarriedOut (piece_call input p) before p line after

-- the line of a piece that is carried out or refused
abbrev pub answer_line : Piece → Result Line ConsoleFault → Line
answer_line p (Ok line) = line
answer_line p (Err fault) = refusal_line p fault
