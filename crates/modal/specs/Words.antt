-- The words in which rows and the refusals of reading and writing a rule are printed.
use Rattle.std.specs.Prelude.{ℕ, List, ◌++◌, codes, decimal}
use Rattle.modal.specs.Faults.{read_start}
use Rattle.modal.specs.declared.row.Row.{Row}
use Rattle.modal.specs.declared.row.Row.TheVariants as row
use Rattle.modal.specs.declared.faults.ReadFault.{ReadFault}
use Rattle.modal.specs.declared.faults.ReadFault.TheVariants.{NoBytes, UnknownKind, CutOff, TooManyRows, ChildNotEarlier, LetterTooHigh, TooDeep}
use Rattle.modal.specs.declared.faults.WriteFault.{WriteFault}
use Rattle.modal.specs.declared.faults.WriteFault.TheVariants.{TooShort}

abbrev pub row_words : Row → List ℕ
row_words row.False = codes "false"
row_words row.True = codes "true"
row_words (row.Letter a) = codes "letter " ++ decimal a
row_words (row.Not c) = codes "not row " ++ decimal c
row_words (row.And c e) = codes "row " ++ (decimal c ++ (codes " and row " ++ decimal e))
row_words (row.Or c e) = codes "row " ++ (decimal c ++ (codes " or row " ++ decimal e))
row_words (row.Box c) = codes "box row " ++ decimal c
row_words (row.Diamond c) = codes "diamond row " ++ decimal c

-- what is wrong
abbrev pub read_reason : ReadFault → List ℕ
read_reason NoBytes = codes "there are no bytes"
read_reason (UnknownKind at) = codes "the kind is over 07"
read_reason (CutOff at) = codes "the body is cut off"
read_reason (TooManyRows at) = codes "a 65th row begins"
read_reason (ChildNotEarlier at) = codes "a child is not an earlier row"
read_reason (LetterTooHigh at) = codes "the letter is over 14"
read_reason (TooDeep at) = codes "the row is deeper than 7"

-- the row at fault, the byte where it begins, and what is wrong
abbrev pub read_words : ReadFault → List ℕ
read_words fault = codes "row " ++ (decimal (read_start fault).row ++ (codes ", at byte " ++ (decimal (read_start fault).byte ++ (codes ": " ++ read_reason fault))))

abbrev pub write_words : WriteFault → List ℕ
write_words (TooShort needed) = codes "the buffer is shorter than the " ++ (decimal needed ++ codes " bytes needed")
