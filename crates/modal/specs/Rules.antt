-- The rows that a rule holds, and what reading and writing promise of them.
use Rattle.std.specs.Prelude.{◌≡◌, ℕ, List, Ok, Err, Result}
use Rattle.fixed_list.specs.Items.{items_of}
use Rattle.modal.specs.Format.{parsed, written, wrote, overlaid}
use Rattle.modal.specs.declared.row.Row.{Row}
use Rattle.modal.specs.declared.row_list.RowList.{RowList}
use Rattle.modal.specs.declared.rule.Rule.{Rule}
use Rattle.modal.specs.declared.faults.ReadFault.{ReadFault}
use Rattle.modal.specs.declared.faults.WriteFault.{WriteFault}

abbrev pub listed : RowList → List Row
listed l = items_of l.rows

abbrev pub rows_of : Rule → List Row
rows_of r = listed r.list

-- Reading: the rule holds the rows that the bytes say, and these rows are written as the same bytes; or it is refused and is as it was.
abbrev pub Reads : List ℕ → Rule → Rule → Result (Unit {0}) ReadFault → Type 0
Reads bytes before after (Ok _) = (parsed bytes ≡ Ok (rows_of after)) × (written (rows_of after) ≡ bytes)
Reads bytes before after (Err fault) = (parsed bytes ≡ Err fault) × (after ≡ before)

-- Writing: the rule's bytes stand at the start of the buffer, the rest of it is as it was, and the bytes say the same rows; or the buffer is too short and as it was.
pub record Writes (rows : List Row) (before after : List ℕ) (r : Result ℕ WriteFault) : Type 0 where
  pub answer : r ≡ wrote (written rows) before
  pub buffer : after ≡ overlaid (written rows) before
  pub again : parsed (written rows) ≡ Ok rows
