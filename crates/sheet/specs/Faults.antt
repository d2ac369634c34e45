-- The refusal of a sheet: its number with its detail.
use Rattle.modal.specs.Faults.{Refusal, refusal}
use Rattle.sheet.specs.declared.faults.SheetFault.{SheetFault}
use Rattle.sheet.specs.declared.faults.SheetFault.TheVariants.{NoRoot, Unlawful}

abbrev pub sheet_refusal : SheetFault → Refusal
sheet_refusal NoRoot = refusal 9 0
sheet_refusal (Unlawful row) = refusal 9 row
