-- One kind more of an input, and what is left behind its body.
use Rattle.std.proofs.Common.{◌≡◌, ℕ, zero, suc, ◌+◌, ◌-◌, ◌≤◌, List, [], ◌∷◌, ◌++◌, length, drop, Some, None, Err, Option, ap, sym, subst, ◌∙◌, append_assoc, arith}
use Rattle.std.proofs.lemmas.Grind.{common_steps}
use Rattle.std.proofs.lemmas.Bool.Decides.{nat_tests}
use Rattle.console.specs.Pieces.{piece, ended, pieces_from, pieces_of}
use Rattle.console.specs.Splitting.{piece_placed, CommandFront, CommandUnread, Found}
use Rattle.console.specs.declared.faults.InputFault.{InputFault}
use Rattle.console.specs.declared.pieces.Command.{Command}
use Rattle.console.specs.declared.pieces.Piece.{Piece}

-- a body is passed over
pub passed : (n start at : ℕ) (bs : List ℕ) → n ≤ length bs → pieces_from n start at bs ≡ pieces_from 0 start (at + n) (drop n bs)
passed zero start at bs h = grind arith
passed (suc n) start at [] h = absurd (omega arith)
passed (suc n) start at (b ∷ bs) h = grind (arith, common_steps, passed n start (at + 1) bs (omega arith))

-- at the byte `at` there is the kind k, and bs are the bytes after that
module _ (start at k : ℕ) (bs : List ℕ) where
  stops : (f : InputFault) → CommandUnread k bs f → pieces_from 0 start at (k ∷ bs) ≡ piece at (Err f) ∷ []
  stops f u = grind (arith, nat_tests)

  module _ (rest : List ℕ) (next : ℕ) (n : next ≡ at + 1 + (length bs - length rest)) where
    row_passed : CommandFront start k bs None rest → pieces_from 0 start at (k ∷ bs) ≡ pieces_from 0 start next rest
    row_passed s = grind (arith, common_steps, nat_tests, passed)

    command_passed : (c : Command) → CommandFront start k bs (Some c) rest → pieces_from 0 start at (k ∷ bs) ≡ piece_placed start at c ∷ pieces_from 0 next next rest
    command_passed c s = grind (arith, common_steps, nat_tests, passed)

left : (start k : ℕ) (bs rest : List ℕ) (c : Option Command) → CommandFront start k bs c rest → length rest ≤ length bs
left start k bs rest c s = grind (arith, common_steps)

-- and so the loop goes on
module _ (input : List ℕ) (found : List Piece) (start k : ℕ) (bs : List ℕ) (so_far : Found input found start (k ∷ bs)) where
  pub stopped : (f : InputFault) → CommandUnread k bs f → pieces_of input ≡ found ++ piece (length input - length (k ∷ bs)) (Err f) ∷ []
  stopped f u = so_far.whole ∙ ap (λ (ps : List Piece). found ++ ps) (stops start (length input - length (k ∷ bs)) k bs f u)

  module _ (rest : List ℕ) where
    pub row_found : (c : Option Command) → CommandFront start k bs c rest → c ≡ None → Found input found start rest
    row_found c s none =
        let less = left start k bs rest c s in
        record {
          shorter = omega (arith, less, so_far.shorter);
          whole = so_far.whole ∙ ap (λ (ps : List Piece). found ++ ps) (row_passed start (length input - length (k ∷ bs)) k bs rest (length input - length rest) (omega (arith, less, so_far.shorter)) (subst (λ (d : Option Command). CommandFront start k bs d rest) none s));
        }

    pub command_found : (c : Command) → CommandFront start k bs (Some c) rest → Found input (found ++ piece_placed start (length input - length (k ∷ bs)) c ∷ []) (length input - length rest) rest
    command_found c s =
        let less = left start k bs rest (Some c) s in
        record {
          shorter = omega (arith, less, so_far.shorter);
          whole =
              so_far.whole
              ∙ ap (λ (ps : List Piece). found ++ ps) (command_passed start (length input - length (k ∷ bs)) k bs rest (length input - length rest) (omega (arith, less, so_far.shorter)) c s)
              ∙ sym (append_assoc found _ _);
        }

-- the end of the bytes
pub all_found : (input : List ℕ) (found : List Piece) (start : ℕ) → Found input found start [] → pieces_of input ≡ found ++ ended start (length input)
all_found input found start so_far =
    let same : length input - 0 ≡ length input = omega arith in so_far.whole ∙ ap (λ (at : ℕ). found ++ ended start at) same
