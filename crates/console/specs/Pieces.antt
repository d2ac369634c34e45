-- How an input falls into commands: row after row, and the commands between them.
use Rattle.std.specs.Prelude.{ℕ, zero, suc, ◌+◌, ◌*◌, List, [], ◌∷◌, ◌++◌, cond, length, Ok, Err, Result, ◌==◌, nat_lt, slice_index}
use Rattle.modal.specs.Format.{body_length}
use Rattle.console.specs.declared.faults.InputFault.{InputFault}
use Rattle.console.specs.declared.faults.InputFault.TheVariants.{UnknownKind, CutOff, NotEnded, TooLong}
use Rattle.console.specs.declared.pieces.Command.{Command}
use Rattle.console.specs.declared.pieces.Command.TheVariants.{Add, Ask, Forget}
use Rattle.console.specs.declared.pieces.Piece.{Piece}

abbrev pub piece : ℕ → Result Command InputFault → Piece
piece at read = record { at = at; read = read }

-- a question or forgetting at a byte: refused where rows stand before it, which began at another byte
abbrev pub after_rows : ℕ → ℕ → Command → Piece
after_rows start at c = piece at (cond (start == at) (Ok c) (Err NotEnded))

-- the number of bytes after the kind k: as in rules for the rows 0 to 7, two for a question (9), none for 8 and 10
abbrev pub body_size : ℕ → ℕ
body_size k = cond (nat_lt k 8) (body_length k) (cond (k == 9) 2 0)

-- what the kind k at a byte says, with the bytes behind it: a row nothing yet, 8 adds the rows from their start, 9 asks, 10 forgets
abbrev pub said : ℕ → ℕ → ℕ → List ℕ → List Piece
said start at k bs =
    cond (nat_lt k 8) []
    (cond (k == 8) (piece at (Ok (Add start)) ∷ [])
    (cond (k == 9) (after_rows start at (Ask (slice_index bs 0 + 256 * slice_index bs 1)) ∷ [])
    (after_rows start at Forget ∷ [])))

-- where the rows begin that are not yet added: after a command, behind its body
abbrev pub start_after : ℕ → ℕ → ℕ → ℕ
start_after start at k = cond (nat_lt k 8) start (at + 1 + body_size k)

-- the end of the input: rows that stand before it are refused
abbrev pub ended : ℕ → ℕ → List Piece
ended start at = cond (start == at) [] (piece at (Err NotEnded) ∷ [])

-- the pieces of the bytes that begin at the byte `at`, of which the first n are a body that is passed over; the rows that are not yet added begin at `start`
abbrev pub pieces_from : ℕ → ℕ → ℕ → List ℕ → List Piece
pieces_from zero start at [] = ended start at
pieces_from zero start at (k ∷ bs) =
    cond (nat_lt 10 k) (piece at (Err UnknownKind) ∷ [])
    (cond (nat_lt (length bs) (body_size k)) (piece at (Err CutOff) ∷ [])
    (said start at k bs ++ pieces_from (body_size k) (start_after start at k) (at + 1) bs))
pieces_from (suc n) start at [] = []
pieces_from (suc n) start at (b ∷ bs) = pieces_from n start (at + 1) bs

-- the pieces of an input of at most 65,536 bytes; a longer one is refused whole
abbrev pub pieces_of : List ℕ → List Piece
pieces_of input = cond (nat_lt 65536 (length input)) (piece 65536 (Err TooLong) ∷ []) (pieces_from 0 0 0 input)
