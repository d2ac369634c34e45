-- For proofs alone: one command at the front of the bytes of an input: what the functions below `pieces` promise each other.
use Rattle.std.specs.Prelude.{◌≡◌, ℕ, ◌+◌, ◌-◌, ◌*◌, ◌<◌, ◌≤◌, List, ◌++◌, length, drop, cond, Ok, Option, Some, None, ◌==◌, nat_lt, slice_index}
use Rattle.console.specs.Pieces.{piece, after_rows, body_size, pieces_from, pieces_of}
use Rattle.console.specs.declared.faults.InputFault.{InputFault}
use Rattle.console.specs.declared.faults.InputFault.TheVariants.{UnknownKind, CutOff}
use Rattle.console.specs.declared.pieces.Command.{Command}
use Rattle.console.specs.declared.pieces.Command.TheVariants.{Add, Ask, Forget}
use Rattle.console.specs.declared.pieces.Piece.{Piece}

-- the command of the kind k, with the bytes behind it: none for a row
abbrev pub command_of : ℕ → ℕ → List ℕ → Option Command
command_of start k bs =
    cond (nat_lt k 8) None
    (cond (k == 8) (Some (Add start))
    (cond (k == 9) (Some (Ask (slice_index bs 0 + 256 * slice_index bs 1))) (Some Forget)))

-- the piece of a command at a byte: adding takes the rows before it, which no other command may have
abbrev pub piece_placed : ℕ → ℕ → Command → Piece
piece_placed start at (Add from) = piece at (Ok (Add from))
piece_placed start at (Ask set) = after_rows start at (Ask set)
piece_placed start at Forget = after_rows start at Forget

-- the bytes after the kind k begin with its body, and the rest stands behind it
pub record CommandFront (start k : ℕ) (bytes : List ℕ) (command : Option Command) (rest : List ℕ) : Type 0 where
  pub known : k ≤ 10
  pub whole : body_size k ≤ length bytes
  pub is : command ≡ command_of start k bytes
  pub behind : rest ≡ drop (body_size k) bytes

-- there is no kind k, or the bytes after it end before its body does
pub record CommandUnread (k : ℕ) (bytes : List ℕ) (fault : InputFault) : Type 0 where
  pub unknown : 10 < k → fault ≡ UnknownKind
  pub cut : k ≤ 10 → (length bytes < body_size k) × (fault ≡ CutOff)

-- the pieces that are found and those of the rest are the whole; the rows that are not yet added begin at `start`
pub record Found (input : List ℕ) (found : List Piece) (start : ℕ) (rest : List ℕ) : Type 0 where
  pub shorter : length rest ≤ length input
  pub whole : pieces_of input ≡ found ++ pieces_from 0 start (length input - length rest) rest
