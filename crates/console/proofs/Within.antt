-- Where the rows that are added stand.
use Rattle.std.proofs.Common.{ℕ, zero, suc, ◌+◌, ◌≤◌, Bool, true, false, cond, Ok, Err, List, [], ◌∷◌, length, ◌==◌, nat_lt, arith}
use Rattle.std.proofs.lemmas.List.Elements.{All-nil, All-cons, All-append}
use Rattle.std.specs.List.{All}
use Rattle.console.specs.Pieces.{piece, body_size, said, start_after, pieces_from, pieces_of}
use Rattle.console.specs.Carrying.{Within, CommandWithin}
use Rattle.console.specs.declared.faults.InputFault.{InputFault}
use Rattle.console.specs.declared.faults.InputFault.TheVariants.{NotEnded, TooLong, UnknownKind, CutOff}
use Rattle.console.specs.declared.pieces.Command.{Command}
use Rattle.console.specs.declared.pieces.Piece.{Piece}

-- what holds of both holds of either
either : {A : Type 0} (P : A → Type 0) (b : Bool) (x y : A) → P x → P y → P (cond b x y)
either P true x y p q = p
either P false x y p q = q

one : (P : Piece → Type 0) (p : Piece) → P p → All P (p ∷ [])
one P p h = All-cons P p [] h (All-nil P)

module _ (whole : ℕ) where
  refused : (at : ℕ) (f : InputFault) → All (λ (p : Piece). Within whole p) (piece at (Err f) ∷ [])
  refused at f = one (λ (p : Piece). Within whole p) (piece at (Err f)) tt

  asked : (at : ℕ) (b : Bool) (c : Command) → CommandWithin whole at (Ok c) → All (λ (p : Piece). Within whole p) (piece at (cond b (Ok c) (Err NotEnded)) ∷ [])
  asked at true c h = one (λ (p : Piece). Within whole p) _ h
  asked at false c h = one (λ (p : Piece). Within whole p) _ tt

  said_within : (start at k : ℕ) (bs : List ℕ) → start ≤ at → at ≤ whole → All (λ (p : Piece). Within whole p) (said start at k bs)
  said_within start at k bs h low =
      let all : List Piece → Type 0 = λ (ps : List Piece). All (λ (p : Piece). Within whole p) ps in
      either all (nat_lt k 8) _ _ (All-nil (λ (p : Piece). Within whole p))
      (either all (k == 8) _ _ (one (λ (p : Piece). Within whole p) _ (h, low))
      (either all (k == 9) _ _ (asked at (start == at) _ tt) (asked at (start == at) _ tt)))

  start_low : (start at k : ℕ) → start ≤ at → start_after start at k ≤ at + 1 + body_size k
  start_low start at k h = either (λ (s : ℕ). s ≤ at + 1 + body_size k) (nat_lt k 8) start (at + 1 + body_size k) (omega arith) (omega arith)

  from_within : (n start at : ℕ) (bs : List ℕ) → start ≤ at + n → at + length bs ≤ whole → All (λ (p : Piece). Within whole p) (pieces_from n start at bs)
  from_within zero start at [] h low =
      either (λ (ps : List Piece). All (λ (p : Piece). Within whole p) ps) (start == at) _ _ (All-nil (λ (p : Piece). Within whole p)) (refused at NotEnded)
  from_within zero start at (k ∷ bs) h low =
      let all : List Piece → Type 0 = λ (ps : List Piece). All (λ (p : Piece). Within whole p) ps in
      either all (nat_lt 10 k) _ _ (refused at UnknownKind)
      (either all (nat_lt (length bs) (body_size k)) _ _ (refused at CutOff)
      (All-append (λ (p : Piece). Within whole p) (said start at k bs) (pieces_from (body_size k) (start_after start at k) (at + 1) bs)
      (said_within start at k bs (omega arith) (omega arith))
      (from_within (body_size k) (start_after start at k) (at + 1) bs (start_low start at k (omega arith)) (omega arith))))
  from_within (suc n) start at [] h low = All-nil (λ (p : Piece). Within whole p)
  from_within (suc n) start at (b ∷ bs) h low = from_within n start (at + 1) bs (omega arith) (omega arith)

pub pieces_within : (input : List ℕ) → All (λ (p : Piece). Within (length input) p) (pieces_of input)
pieces_within input =
    either (λ (ps : List Piece). All (λ (p : Piece). Within (length input) p) ps) (nat_lt 65536 (length input)) _ _ (refused (length input) 65536 TooLong) (from_within (length input) 0 0 0 input (omega arith) (omega arith))
