-- The words in which the refusal of a page is printed: the layer that refused it, and why.
use Rattle.std.specs.Prelude.{ℕ, List, ◌++◌, codes, decimal}
use Rattle.modal.specs.Faults.{Refusal, read_refusal}
use Rattle.modal.specs.Words.{read_words}
use Rattle.sheet.specs.Faults.{sheet_refusal}
use Rattle.sheet.specs.Words.{sheet_words}
use Rattle.page.specs.declared.faults.TextFault.{TextFault}
use Rattle.page.specs.declared.faults.TextFault.TheVariants.{Unexpected, TooLarge, TooFew}
use Rattle.page.specs.declared.faults.PageFault.{PageFault}
use Rattle.page.specs.declared.faults.PageFault.TheVariants as fault

abbrev pub text_words : TextFault → List ℕ
text_words (Unexpected at) = codes "byte " ++ (decimal at ++ codes ": no digit, blank or end of a line")
text_words (TooLarge at) = codes "byte " ++ (decimal at ++ codes ": the number is too large")
text_words (TooFew at) = codes "byte " ++ (decimal at ++ codes ": the row ends before its level")

-- the number and the detail of a refusal, what was refused, and why
abbrev pub refusal_words : Refusal → List ℕ → List ℕ → List ℕ
refusal_words refusal layer why = decimal refusal.number ++ (codes ", detail " ++ (decimal refusal.detail ++ (codes ": the " ++ (layer ++ (codes ", " ++ why)))))

abbrev pub page_words : PageFault → List ℕ
page_words (fault.Text e) = codes "the text, " ++ text_words e
page_words (fault.Rule e) = refusal_words (read_refusal e) (codes "rule") (read_words e)
page_words (fault.Sheet e) = refusal_words (sheet_refusal e) (codes "sheet") (sheet_words e)
page_words fault.Memory = codes "there is no memory for the page"
