use Rattle.std.proofs.Common.{◌≡◌, drop}
use Rattle.page.specs.Pages.{state_of, read_from, read_page}
use Rattle.page.proofs.reader.read.Given as goal

abbrev pub invariant-loop-at : goal.invariant-loop-at
invariant-loop-at l = read_page l.text ≡ read_from (state_of l.page) l.at (drop l.at l.text)
