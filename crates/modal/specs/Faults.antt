-- The refusals of reading and writing a rule: the number of each with its detail, and where its row begins.
use Rattle.std.specs.Prelude.{ℕ}
use Rattle.modal.specs.declared.faults.RowStart.{RowStart}
use Rattle.modal.specs.declared.faults.ReadFault.{ReadFault}
use Rattle.modal.specs.declared.faults.ReadFault.TheVariants.{NoBytes, UnknownKind, CutOff, TooManyRows, ChildNotEarlier, LetterTooHigh, TooDeep}
use Rattle.modal.specs.declared.faults.WriteFault.{WriteFault}
use Rattle.modal.specs.declared.faults.WriteFault.TheVariants.{TooShort}

-- what a caller is told of a refusal
pub record Refusal : Type 0 where
  pub number : ℕ
  pub detail : ℕ

abbrev pub refusal : ℕ → ℕ → Refusal
refusal n d = record { number = n; detail = d }

abbrev pub read_refusal : ReadFault → Refusal
read_refusal NoBytes = refusal 1 0
read_refusal (UnknownKind at) = refusal 2 at.row
read_refusal (CutOff at) = refusal 3 at.row
read_refusal (TooManyRows at) = refusal 4 64
read_refusal (ChildNotEarlier at) = refusal 5 at.row
read_refusal (LetterTooHigh at) = refusal 6 at.row
read_refusal (TooDeep at) = refusal 7 at.row

abbrev pub write_refusal : WriteFault → Refusal
write_refusal (TooShort needed) = refusal 10 needed

-- the row at fault and the byte where it begins
abbrev pub read_start : ReadFault → RowStart
read_start NoBytes = record { row = 0; byte = 0 }
read_start (UnknownKind at) = at
read_start (CutOff at) = at
read_start (TooManyRows at) = at
read_start (ChildNotEarlier at) = at
read_start (LetterTooHigh at) = at
read_start (TooDeep at) = at
