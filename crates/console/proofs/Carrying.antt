-- One piece carried out.
use Rattle.std.proofs.Common.{◌≡◌, ℕ, zero, suc, ◌+◌, ◌-◌, ◌≤◌, List, [], ◌∷◌, ◌++◌, length, drop, Ok, Err, subst, length-drop, length-take, arith}
use Rattle.std.specs.List.{slice_index}
use Rattle.std.proofs.lemmas.Bool.Decides.{nat_tests}
use Rattle.modal.specs.Faults.{read_start}
use Rattle.modal.specs.Format.{body_length, row_of, start_of, placed, parse, parsed}
use Rattle.modal.specs.Rows.{row_depths}
use Rattle.modal.specs.declared.row.Row.{Row}
use Rattle.modal.specs.declared.faults.RowStart.{RowStart}
use Rattle.modal.specs.declared.faults.ReadFault.{ReadFault}
use Rattle.clausal.specs.States.{State}
use Rattle.law.specs.Calls.{add, question, Reply}
use Rattle.law.specs.Runs.{CallLaw}
use Rattle.session.specs.Replies.{numbers_of}
use Rattle.console.specs.Lines.{between, offset_of, Tells}
use Rattle.console.specs.Carrying.{Within, CommandWithin, CarriedOut}
use Rattle.console.specs.declared.faults.ConsoleFault.TheVariants as layer
use Rattle.console.specs.declared.lines.Line.{Line}
use Rattle.console.specs.declared.pieces.Command.TheVariants.{Add, Ask}
use Rattle.console.specs.declared.pieces.Piece.{Piece}

placed_at : (ds : List ℕ) (s : RowStart) (r : Row) (f : ReadFault) → placed ds s r ≡ Err f → (read_start f).byte ≡ s.byte
placed_at ds s r f e = grind (arith, nat_tests)

-- a fault lies in the bytes
fault_from : (n : ℕ) (rs : List Row) (b : ℕ) (bs : List ℕ) (f : ReadFault) → parse n rs b bs ≡ Err f → (read_start f).byte ≤ b + length bs
fault_from zero rs b [] f e = grind (arith)
fault_from (suc n) rs b [] f e = grind (arith)
fault_from zero rs b (k ∷ bs) f e = grind (arith)
fault_from (suc n) rs b (k ∷ bs) f e =
    let row = row_of k (slice_index bs 0) (slice_index bs 1) in
    grind (arith, nat_tests, length-drop (body_length k) bs, placed_at (row_depths rs) (start_of rs b) row f, fault_from n (rs ++ row ∷ []) (b + 1 + body_length k) (drop (body_length k) bs) f)

pub fault_in : (bs : List ℕ) (f : ReadFault) → parsed bs ≡ Err f → (read_start f).byte ≤ length bs
fault_in [] f e = grind (arith)
fault_in (k ∷ bs) f e = omega (arith, fault_from 64 [] 0 (k ∷ bs) f e)

-- the byte of a rule that cannot be read is not behind the command that adds it
pub offset_read : (input : List ℕ) (p : Piece) (start : ℕ) (f : ReadFault) → Within (length input) p → p.read ≡ Ok (Add start) → parsed (between start p.at input) ≡ Err f → offset_of p (layer.Rule f) ≤ p.at
offset_read input p start f w is e =
    let (rows, _) : (start ≤ p.at) × (p.at ≤ length input) = subst (CommandWithin (length input) p.at) is w in
    let inside = fault_in (between start p.at input) f e in
    rw is (omega (arith, rows, inside, length-take (p.at - start) (drop start input)))

-- a call that owes its reply, and the line of the reply
module _ (input : List ℕ) (p : Piece) (before after : State) (r : Reply) (line : Line) (tells : Tells p.at r line) where
  pub adds : (start : ℕ) (rows : List Row) → p.read ≡ Ok (Add start) → parsed (between start p.at input) ≡ Ok rows → CallLaw before (add rows) r after → CarriedOut input before p line after
  adds start rows is e owes = rw is (rw e (r, tells, owes))

  pub asks : (rules : ℕ) → p.read ≡ Ok (Ask rules) → CallLaw before (question (numbers_of rules)) r after → CarriedOut input before p line after
  asks rules is owes = rw is (r, tells, owes)
