-- What each command of an input says, one line for each.
use Rattle.std.specs.Prelude.{◌≡◌, ℕ, ◌+◌, ◌-◌, List, [], ◌∷◌, ◌++◌, take, drop, Ok, Err, Result, codes, decimal}
use Rattle.modal.specs.Faults.{read_start}
use Rattle.modal.specs.Format.{parsed}
use Rattle.modal.specs.declared.faults.ReadFault.{ReadFault}
use Rattle.modal.specs.declared.row.Row.{Row}
use Rattle.clausal.specs.States.{State}
use Rattle.law.specs.Calls.{Call, add, question, forget, Reply, added, opened, closed, forgotten, refused}
use Rattle.law.specs.Runs.{History, LeadsTo, NeverContradicted}
use Rattle.law.specs.Verdicts.{Sound}
use Rattle.session.specs.Replies.{numbers_of}
use Rattle.console.specs.Faults.{console_refusal}
use Rattle.console.specs.Pieces.{pieces_of}
use Rattle.console.specs.declared.faults.InputFault.{InputFault}
use Rattle.console.specs.declared.faults.ConsoleFault.{ConsoleFault}
use Rattle.console.specs.declared.faults.ConsoleFault.TheVariants as layer
use Rattle.console.specs.declared.lines.Line.{Line}
use Rattle.console.specs.declared.lines.Line.TheVariants.{Added, Open, Closed, Forgotten, Refused}
use Rattle.console.specs.declared.pieces.Command.{Command}
use Rattle.console.specs.declared.pieces.Command.TheVariants.{Add, Ask, Forget}
use Rattle.console.specs.declared.pieces.Piece.{Piece}

-- the bytes from the byte `start` up to the byte `end`
abbrev pub between : ℕ → ℕ → List ℕ → List ℕ
between start end bytes = take (end - start) (drop start bytes)

-- adding the rows, or why there are none to add
abbrev pub rule_call : Result (List Row) ReadFault → Result Call ConsoleFault
rule_call (Ok rows) = Ok (add rows)
rule_call (Err fault) = Err (layer.Rule fault)

-- the call of a command at a byte: adding takes the rows of the bytes before it, a question the rules of its set
abbrev pub command_call : List ℕ → ℕ → Result Command InputFault → Result Call ConsoleFault
command_call input at (Ok (Add start)) = rule_call (parsed (between start at input))
command_call input at (Ok (Ask rules)) = Ok (question (numbers_of rules))
command_call input at (Ok Forget) = Ok forget
command_call input at (Err fault) = Err (layer.Input fault)

-- the call that a piece makes, or why it makes none
abbrev pub piece_call : List ℕ → Piece → Result Call ConsoleFault
piece_call input p = command_call input p.at p.read

-- where the faulty row of a rule begins, which stands behind the byte where the rows do
abbrev pub row_byte : ℕ → Result Command InputFault → ReadFault → ℕ
row_byte at (Ok (Add start)) fault = start + (read_start fault).byte
row_byte at (Ok (Ask rules)) fault = at
row_byte at (Ok Forget) fault = at
row_byte at (Err e) fault = at

-- the byte of a fault: the faulty row of a rule that cannot be read, else the piece
abbrev pub offset_of : Piece → ConsoleFault → ℕ
offset_of p (layer.Input fault) = p.at
offset_of p (layer.Rule fault) = row_byte p.at p.read fault
offset_of p (layer.Add fault) = p.at
offset_of p (layer.Question fault) = p.at

-- the line of a fault: its number, its byte and its detail
abbrev pub refusal_line : Piece → ConsoleFault → Line
refusal_line p fault = Refused (console_refusal fault).number (offset_of p fault) (console_refusal fault).detail

-- the line says the reply to the call of a piece at a byte
abbrev pub Tells : ℕ → Reply → Line → Type 0
Tells at (added number) line = line ≡ Added number
Tells at (opened count) line = line ≡ Open
Tells at (closed core) line = (rules : ℕ) × (core ≡ numbers_of rules) × (line ≡ Closed rules)
Tells at forgotten line = line ≡ Forgotten
Tells at (refused number detail) line = line ≡ Refused number at detail

-- Pieces with their lines, one for each, and the calls that they make with their replies, the latest first.
pub data Carried (input : List ℕ) : List Piece → List Line → History → Type 0 where
  none : Carried input [] [] []
  -- a piece that makes a call has the line of the reply
  called : {ps : List Piece} {ls : List Line} {h : History} (p : Piece) (c : Call) (r : Reply) (line : Line) → Carried input ps ls h → piece_call input p ≡ Ok c → Tells p.at r line → Carried input (ps ++ p ∷ []) (ls ++ line ∷ []) ((c, r) ∷ h)
  -- any other has the line of its fault
  faulty : {ps : List Piece} {ls : List Line} {h : History} (p : Piece) (fault : ConsoleFault) → Carried input ps ls h → piece_call input p ≡ Err fault → Carried input (ps ++ p ∷ []) (ls ++ refusal_line p fault ∷ []) h

-- The lines of an input: there are calls with their replies, of which
pub record LinesOf (input : List ℕ) (lines : List Line) : Type 0 where
  pub history : History
  -- each piece of the input has its line
  pub carried : Carried input (pieces_of input) lines history
  -- they lead from a new session to this one, which is sound
  pub left : State
  pub led : LeadsTo history left
  pub sound : Sound left
  -- no replies to the same calls, over whatever oracle, contradict them
  pub agrees : NeverContradicted history

-- what is printed of a line
abbrev pub line_text : Line → List ℕ
line_text (Added number) = codes "A " ++ decimal number
line_text Open = codes "O"
line_text (Closed rules) = codes "C " ++ decimal rules
line_text Forgotten = codes "F"
line_text (Refused number offset detail) = codes "R " ++ (decimal number ++ (codes " " ++ (decimal offset ++ (codes " " ++ decimal detail))))
