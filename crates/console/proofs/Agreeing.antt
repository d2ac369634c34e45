-- The calls are those of the input, so two oracles that get the same input never contradict each other.
use Rattle.std.proofs.Common.{◌≡◌, ℕ, List, [], ◌∷◌, ◌++◌, Ok, Err, Result, refl, sym, ap, ◌∙◌}
use Rattle.law.specs.Calls.{Call}
use Rattle.law.specs.Runs.{History, calls_of, AgreeAll}
use Rattle.console.specs.Lines.{piece_call, Carried, none, called, faulty, LinesOf}
use Rattle.console.specs.declared.faults.ConsoleFault.{ConsoleFault}
use Rattle.console.specs.declared.lines.Line.{Line}
use Rattle.console.specs.declared.pieces.Piece.{Piece}

-- the calls that pieces make, the latest first: a function of the input alone
abbrev pub with_call : Result Call ConsoleFault → List Call → List Call
with_call (Ok c) cs = c ∷ cs
with_call (Err fault) cs = cs

abbrev pub calls_after : List Call → List ℕ → List Piece → List Call
calls_after cs input [] = cs
calls_after cs input (p ∷ ps) = calls_after (with_call (piece_call input p) cs) input ps

calls_more : (cs : List Call) (input : List ℕ) (ps : List Piece) (p : Piece) → calls_after cs input (ps ++ p ∷ []) ≡ with_call (piece_call input p) (calls_after cs input ps)
calls_more cs input [] p = refl
calls_more cs input (q ∷ ps) p = calls_more (with_call (piece_call input q) cs) input ps p

-- the history has the calls that the pieces make
pub carried_calls : {input : List ℕ} {ps : List Piece} {ls : List Line} {h : History} → Carried input ps ls h → calls_of h ≡ calls_after [] input ps
carried_calls none = refl
carried_calls {input} (called {ps} p c r line before is tells) = ap (λ (cs : List Call). c ∷ cs) (carried_calls before) ∙ sym (calls_more [] input ps p ∙ ap (λ made. with_call made (calls_after [] input ps)) is)
carried_calls {input} (faulty {ps} p fault before is) = carried_calls before ∙ sym (calls_more [] input ps p ∙ ap (λ made. with_call made (calls_after [] input ps)) is)

-- the same input over two oracles: no reply contradicts the other at the same call
pub oracles_agree : (input : List ℕ) (ls ms : List Line) (s : LinesOf input ls) (t : LinesOf input ms) → AgreeAll s.history t.history
oracles_agree input ls ms s t = s.agrees t.history t.left t.led (carried_calls t.carried ∙ sym (carried_calls s.carried))
