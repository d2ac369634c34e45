-- The bytes of a rule: which rows a string of bytes says, or which fault is found first, and the bytes that rows are written as.
use Rattle.std.specs.Prelude.{ℕ, zero, suc, ◌+◌, cond, ◌||◌, List, [], ◌∷◌, ◌++◌, length, drop, Ok, Err, Result, ◌==◌, nat_le, nat_lt, slice_index}
use Rattle.std.specs.List.{flat_map}
use Rattle.modal.specs.Rows.{row_depths, depth_of, letter_in_range, children_earlier}
use Rattle.modal.specs.declared.row.Row.{Row}
use Rattle.modal.specs.declared.row.Row.TheVariants as row
use Rattle.modal.specs.declared.faults.RowStart.{RowStart}
use Rattle.modal.specs.declared.faults.ReadFault.{ReadFault}
use Rattle.modal.specs.declared.faults.ReadFault.TheVariants.{NoBytes, UnknownKind, CutOff, TooManyRows, ChildNotEarlier, LetterTooHigh, TooDeep}
use Rattle.modal.specs.declared.faults.WriteFault.{WriteFault}
use Rattle.modal.specs.declared.faults.WriteFault.TheVariants.{TooShort}

-- the number of bytes after the kind k: none for false and true, two for and and or, else one
abbrev pub body_length : ℕ → ℕ
body_length k = cond (nat_lt k 2) 0 (cond (k == 4 || k == 5) 2 1)

-- the row of kind k with the body c, e
abbrev pub row_of : ℕ → ℕ → ℕ → Row
row_of k c e =
    cond (k == 0) row.False
    (cond (k == 1) row.True
    (cond (k == 2) (row.Letter c)
    (cond (k == 3) (row.Not c)
    (cond (k == 4) (row.And c e)
    (cond (k == 5) (row.Or c e)
    (cond (k == 6) (row.Box c) (row.Diamond c)))))))

-- the next row, behind the rows rs, begins at byte b
abbrev pub start_of : List Row → ℕ → RowStart
start_of rs b = record { row = length rs; byte = b }

-- the depth of a row that begins at s behind rows of the depths ds, or its fault
abbrev pub placed : List ℕ → RowStart → Row → Result ℕ ReadFault
placed ds s r =
    cond (letter_in_range r)
    (cond (children_earlier (length ds) r) (cond (nat_le (depth_of ds r) 7) (Ok (depth_of ds r)) (Err (TooDeep s))) (Err (ChildNotEarlier s)))
    (Err (LetterTooHigh s))

-- a fault ends the reading
abbrev pub onward : Result ℕ ReadFault → Result (List Row) ReadFault → Result (List Row) ReadFault
onward (Ok d) rest = rest
onward (Err e) rest = Err e

-- the rows rs are read, n more may come, and the rest of the bytes begins at byte b
abbrev pub parse : ℕ → List Row → ℕ → List ℕ → Result (List Row) ReadFault
parse n rs b [] = Ok rs
parse zero rs b (k ∷ bs) = Err (TooManyRows (start_of rs b))
parse (suc n) rs b (k ∷ bs) =
    cond (nat_lt 7 k) (Err (UnknownKind (start_of rs b)))
    (cond (nat_lt (length bs) (body_length k)) (Err (CutOff (start_of rs b)))
    (onward (placed (row_depths rs) (start_of rs b) (row_of k (slice_index bs 0) (slice_index bs 1)))
    (parse n (rs ++ row_of k (slice_index bs 0) (slice_index bs 1) ∷ []) (b + 1 + body_length k) (drop (body_length k) bs))))

-- the rows that a string of bytes says, or its first fault
abbrev pub parsed : List ℕ → Result (List Row) ReadFault
parsed [] = Err NoBytes
parsed (k ∷ bs) = parse 64 [] 0 (k ∷ bs)

-- the bytes of a row
abbrev pub bytes_of : Row → List ℕ
bytes_of row.False = 0 ∷ []
bytes_of row.True = 1 ∷ []
bytes_of (row.Letter a) = 2 ∷ a ∷ []
bytes_of (row.Not c) = 3 ∷ c ∷ []
bytes_of (row.And c e) = 4 ∷ c ∷ e ∷ []
bytes_of (row.Or c e) = 5 ∷ c ∷ e ∷ []
bytes_of (row.Box c) = 6 ∷ c ∷ []
bytes_of (row.Diamond c) = 7 ∷ c ∷ []

-- the bytes of a rule
abbrev pub written : List Row → List ℕ
written rs = flat_map bytes_of rs

-- what writing the bytes w into a buffer answers
abbrev pub wrote : List ℕ → List ℕ → Result ℕ WriteFault
wrote w out = cond (nat_le (length w) (length out)) (Ok (length w)) (Err (TooShort (length w)))

-- and what the buffer then holds: the bytes at its start, or what it held where they do not fit
abbrev pub overlaid : List ℕ → List ℕ → List ℕ
overlaid w out = cond (nat_le (length w) (length out)) (w ++ drop (length w) out) out
