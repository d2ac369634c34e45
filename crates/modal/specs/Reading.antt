-- For proofs alone: one step of reading: a row more behind those that are read.
use Rattle.std.specs.Prelude.{◌≡◌, ℕ, ◌+◌, ◌-◌, ◌<◌, ◌≤◌, List, [], ◌∷◌, ◌++◌, length, drop, slice_index, Ok, Err, Result}
use Rattle.modal.specs.Format.{body_length, row_of, parse, placed}
use Rattle.modal.specs.Rows.{depth_of, row_depths}
use Rattle.modal.specs.declared.row.Row.{Row}
use Rattle.modal.specs.declared.faults.RowStart.{RowStart}
use Rattle.modal.specs.declared.faults.ReadFault.{ReadFault}
use Rattle.modal.specs.declared.faults.ReadFault.TheVariants.{UnknownKind, CutOff}

-- the bytes after the kind k begin with the body of the row, and the rest stands behind it
pub record Front (k : ℕ) (bytes : List ℕ) (row : Row) (rest : List ℕ) : Type 0 where
  pub known : k ≤ 7
  pub whole : body_length k ≤ length bytes
  pub body : row ≡ row_of k (slice_index bytes 0) (slice_index bytes 1)
  pub behind : rest ≡ drop (body_length k) bytes

-- there is no kind k, or the bytes after it end before its body does
pub record Unread (k : ℕ) (bytes : List ℕ) (start : RowStart) (fault : ReadFault) : Type 0 where
  pub unknown : 7 < k → fault ≡ UnknownKind start
  pub cut : k ≤ 7 → (length bytes < body_length k) × (fault ≡ CutOff start)

-- a row that is pushed fits and stands last
pub record Appended (before : List Row) (row : Row) (start : RowStart) (after : List Row) : Type 0 where
  pub fits : placed (row_depths before) start row ≡ Ok (depth_of (row_depths before) row)
  pub rows : after ≡ before ++ row ∷ []

-- a refused row has the fault that its place gives
abbrev pub Pushed : List Row → Row → RowStart → List Row → Result (Unit {0}) ReadFault → Type 0
Pushed before row start after (Ok _) = Appended before row start after
Pushed before row start after (Err fault) = placed (row_depths before) start row ≡ Err fault

-- what the bytes from byte b on say behind the rows
abbrev pub rest_of : List Row → ℕ → List ℕ → Result (List Row) ReadFault
rest_of rows b bytes = parse (64 - length rows) rows b bytes

-- a row that is read: what is left says behind the longer list what was said before
pub record RowDone (before after : List Row) (b k : ℕ) (bytes rest : List ℕ) : Type 0 where
  pub shorter : length rest ≤ length bytes
  pub same : rest_of before b (k ∷ bytes) ≡ rest_of after (b + 1 + (length bytes - length rest)) rest
