-- What is said grows piece by piece.
use Rattle.std.proofs.Common.{◌≡◌, ℕ, zero, suc, ◌+◌, ◌<◌, ◌≤◌, List, [], ◌∷◌, ◌++◌, length, take, get_or, Ok, Err, Result, refl, sym, ◌∙◌, subst, arith}
use Rattle.std.proofs.lemmas.List.{take_all}
use Rattle.clausal.specs.Adding.{Fresh}
use Rattle.clausal.specs.States.{State}
use Rattle.law.specs.Calls.{Call}
use Rattle.law.specs.Runs.{History, LeadsTo, new, call}
use Rattle.law.proofs.Leading.{led_sound, led_agree}
use Rattle.console.specs.Lines.{piece_call, Carried, none, called, faulty, LinesOf}
use Rattle.console.specs.Pieces.{pieces_of}
use Rattle.console.specs.Carrying.{CarriedOut, CallCarriedOut}
use Rattle.console.specs.declared.faults.ConsoleFault.{ConsoleFault}
use Rattle.console.specs.declared.lines.Line.{Line}
use Rattle.console.specs.declared.pieces.Piece.{Piece}

-- where the pieces so far have led
pub record Leads (input : List ℕ) (ps : List Piece) (ls : List Line) (st : State) : Type 0 where
  pub history : History
  pub carried : Carried input ps ls history
  pub led : LeadsTo history st

-- a new session, before any piece
pub leads_new : (input : List ℕ) (ls : List Line) (st : State) → ls ≡ [] → Fresh st → Leads input [] ls st
leads_new input ls st e f = rw e (record { history = []; carried = none; led = new f })

-- one piece more, with its line
leads_on : (input : List ℕ) (ps : List Piece) (ls : List Line) (st after : State) (p : Piece) (line : Line) → Leads input ps ls st → CarriedOut input st p line after → Leads input (ps ++ p ∷ []) (ls ++ line ∷ []) after
leads_on input ps ls st after p line l grows = by (piece_call input p) refl grows
  where
    by : (made : Result Call ConsoleFault) → piece_call input p ≡ made → CallCarriedOut made st p line after → Leads input (ps ++ p ∷ []) (ls ++ line ∷ []) after
    by (Ok c) is (r, tells, owes) = record {
      history = (c, r) ∷ l.history;
      carried = called p c r line l.carried is tells;
      led = call c r l.led (owes l.history l.led).step;
    }
    by (Err fault) is (says, same) = rw says (rw same (record { history = l.history; carried = faulty p fault l.carried is; led = l.led }))

take_more : (ps : List Piece) (i : ℕ) (p : Piece) → i < length ps → take (i + 1) ps ≡ take i ps ++ get_or ps i p ∷ []
take_more [] i p h = absurd (omega arith)
take_more (q ∷ ps) zero p h = refl
take_more (q ∷ ps) (suc i) p h = grind (arith, take_more ps i p)

-- the same at the index of the piece
pub leads_next : (input : List ℕ) (ps : List Piece) (i : ℕ) (ls : List Line) (st after : State) (p : Piece) (line : Line) → i < length ps → Leads input (take i ps) ls st → CarriedOut input st (get_or ps i p) line after → Leads input (take (i + 1) ps) (ls ++ line ∷ []) after
leads_next input ps i ls st after p line h l grows = rw (take_more ps i p h) (leads_on input (take i ps) ls st after (get_or ps i p) line l grows)

pub says : (input : List ℕ) (ps : List Piece) (i : ℕ) (ls : List Line) (st : State) → ps ≡ pieces_of input → length ps ≤ i → Leads input (take i ps) ls st → LinesOf input ls
says input ps i ls st all end l = record {
  history = l.history;
  carried = subst (λ (qs : List Piece). Carried input qs ls l.history) (take_all i ps end ∙ all) l.carried;
  left = st;
  led = l.led;
  sound = led_sound l.led;
  agrees = λ k t run e. led_agree l.led run (sym e);
}
