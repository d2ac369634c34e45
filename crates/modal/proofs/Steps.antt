-- One row more of the bytes of a rule.
use Rattle.std.proofs.Common.{◌≡◌, ℕ, suc, ◌-◌, ◌<◌, true, List, ◌∷◌, length, Ok, Err, arith}
use Rattle.std.proofs.lemmas.Grind.{common_steps}
use Rattle.std.proofs.lemmas.Bool.Decides.{nat_tests}
use Rattle.modal.specs.Format.{start_of, placed}
use Rattle.modal.specs.Reading.{Front, Unread, Appended, RowDone, rest_of}
use Rattle.modal.specs.Rows.{row_depths, depth_of, row_fits}
use Rattle.modal.specs.declared.row.Row.{Row}
use Rattle.modal.specs.declared.faults.RowStart.{RowStart}
use Rattle.modal.specs.declared.faults.ReadFault.{ReadFault}

-- a row begins at byte b behind the rows rs with its kind k, and bs are the bytes after that
module _ (rs : List Row) (b k : ℕ) (bs : List ℕ) (room : length rs < 64) where
  more : 64 - length rs ≡ suc (63 - length rs)
  more = omega arith

  pub step_unread : (f : ReadFault) → Unread k bs (start_of rs b) f → rest_of rs b (k ∷ bs) ≡ Err f
  step_unread f u = rw more (grind (arith, nat_tests))

  module _ (row : Row) (rest : List ℕ) (s : Front k bs row rest) where
    pub step_refused : (f : ReadFault) → placed (row_depths rs) (start_of rs b) row ≡ Err f → rest_of rs b (k ∷ bs) ≡ Err f
    step_refused f h = rw more (grind (arith, nat_tests))

    pub step_done : (after : List Row) → Appended rs row (start_of rs b) after → RowDone rs after b k bs rest
    step_done after a = record { shorter = grind (arith, common_steps); same = rw more (grind (arith, common_steps, nat_tests)) }

-- a row that is placed fits, and its depth is known
pub placed_fits : (ds : List ℕ) (s : RowStart) (r : Row) (d : ℕ) → placed ds s r ≡ Ok d → (row_fits ds r ≡ true) × (depth_of ds r ≡ d)
placed_fits ds s r d h = (grind (arith, nat_tests), grind (arith, nat_tests))
