-- What the check of a page answers: the truth of its rule at the root of its sheet, or the first fault, by layer.
use Rattle.std.specs.Prelude.{◌≡◌, ℕ, Bool, List, Ok, Err, vec_items, Result}
use Rattle.modal.specs.Format.{parsed}
use Rattle.modal.specs.Rules.{rows_of}
use Rattle.modal.specs.declared.row.Row.{Row}
use Rattle.modal.specs.declared.faults.ReadFault.{ReadFault}
use Rattle.sheet.specs.Sheets.{shown_rows, truth_on}
use Rattle.sheet.specs.declared.row.SheetRow.{SheetRow}
use Rattle.sheet.specs.declared.faults.SheetFault.{SheetFault}
use Rattle.page.specs.Pages.{PageState, read_page}
use Rattle.page.specs.declared.faults.TextFault.{TextFault}
use Rattle.page.specs.declared.faults.PageFault.{PageFault}
use Rattle.page.specs.declared.faults.PageFault.TheVariants as fault
use Rattle.page.specs.declared.check.Checked.{Checked}

abbrev pub sheet_verdict : Result Bool SheetFault → Result Bool PageFault
sheet_verdict (Ok met) = Ok met
sheet_verdict (Err e) = Err (fault.Sheet e)

abbrev pub rule_verdict : Result (List Row) ReadFault → List SheetRow → Result Bool PageFault
rule_verdict (Ok rows) sheet = sheet_verdict (truth_on (shown_rows sheet) rows)
rule_verdict (Err e) sheet = Err (fault.Rule e)

abbrev pub page_verdict : Result PageState TextFault → Result Bool PageFault
page_verdict (Ok p) = rule_verdict (parsed p.bytes) p.rows
page_verdict (Err e) = Err (fault.Text e)

-- the page is read first, then the rule, then the sheet
abbrev pub verdict_of : List ℕ → Result Bool PageFault
verdict_of text = page_verdict (read_page text)

-- what is on the page, and whether the root of its sheet meets its rule
pub record Answered (text : List ℕ) (c : Checked) : Type 0 where
  pub page : PageState
  pub read : read_page text ≡ Ok page
  pub rule : parsed page.bytes ≡ Ok (rows_of c.rule)
  pub sheet : vec_items c.sheet ≡ page.rows
  pub verdict : verdict_of text ≡ Ok c.met

-- the verdict with what was checked, or the first fault; of want of memory nothing is said
abbrev pub Checks : List ℕ → Result Checked PageFault → Type 0
Checks text (Ok c) = Answered text c
Checks text (Err fault.Memory) = Unit {0}
Checks text (Err e) = verdict_of text ≡ Err e
