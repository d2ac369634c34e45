-- Lists of calls with their replies: what each call does, where a list can lead, and what holds of a call after any list.
use Rattle.std.specs.Prelude.{◌≡◌, ℕ, min, true, cond, List, [], ◌∷◌, length, Some, None, Ok, Err, Option, Result, ◌≢◌, nat_le}
use Rattle.modal.specs.Rows.{lawful}
use Rattle.modal.specs.declared.row.Row.{Row}
use Rattle.atoms.specs.Clauses.{definitions}
use Rattle.atoms.specs.declared.clauses.Entry.{Entry}
use Rattle.clausal.specs.Adding.{Fresh, Adds}
use Rattle.clausal.specs.Counting.{add_answer}
use Rattle.clausal.specs.Faults.{add_refusal}
use Rattle.clausal.specs.Questions.{with_entries, Learns, FewLearnt}
use Rattle.clausal.specs.States.{State}
use Rattle.clausal.specs.declared.faults.AddFault.{AddFault}
use Rattle.law.specs.Calls.{Call, add, question, forget, Reply, added, opened, closed, forgotten, refused}
use Rattle.law.specs.Verdicts.{OpenLaw, ClosedLaw, FullLaw, Sound}

-- the reply to adding a rule
abbrev pub add_reply : Result ℕ AddFault → Reply
add_reply (Ok k) = added k
add_reply (Err fault) = refused (add_refusal fault).number (add_refusal fault).detail

-- the lower of two numbers, if there is a second
abbrev pub lower : ℕ → Option ℕ → ℕ
lower k None = k
lower k (Some j) = min k j

-- the lowest number asked that is none of the n rules', if there is one
abbrev pub unknown : ℕ → List ℕ → Option ℕ
unknown n [] = None
unknown n (k ∷ ks) = cond (nat_le n k) (Some (lower k (unknown n ks))) (unknown n ks)

-- what the answer to a question says of the session that it leaves
abbrev pub AnswerLaw : State → List ℕ → Reply → Type 0
AnswerLaw st asked (opened n) = OpenLaw st asked n
AnswerLaw st asked (closed core) = ClosedLaw st asked core
AnswerLaw st asked (refused n l) = (n ≡ 22) × FullLaw st asked l
AnswerLaw st asked (added _) = ⊥
AnswerLaw st asked forgotten = ⊥

-- what adding a rule does: the rule is taken in, or nothing changes
abbrev pub AddStep : State → List Row → State → Reply → Type 0
AddStep st rows after (added k) = Adds st rows after
AddStep st rows after (refused n d) = after ≡ st
AddStep st rows after (opened _) = ⊥
AddStep st rows after (closed _) = ⊥
AddStep st rows after forgotten = ⊥

-- a question drops no entry and appends learnt ones only, and its answer holds of the session that it leaves
pub record Asks (st : State) (asked : List ℕ) (after : State) (r : Reply) : Type 0 where
  pub entries : ℕ → List Entry
  pub left : after ≡ with_entries st entries
  pub learns : Learns st entries
  pub few : FewLearnt entries
  pub answers : AnswerLaw after asked r

-- what a question does: with the number of no rule it is refused and nothing changes; else it asks
abbrev pub AskStep : State → List ℕ → State → Reply → Option ℕ → Type 0
AskStep st asked after r (Some k) = (r ≡ refused 8 k) × (after ≡ st)
AskStep st asked after r None = Asks st asked after r

-- one call with its reply, from a session to the session after it
abbrev pub Step : State → Call → Reply → State → Type 0
Step st (add rows) r after = (lawful rows ≡ true) × (r ≡ add_reply (add_answer st.rules rows)) × AddStep st rows after r
Step st (question asked) r after = AskStep st asked after r (unknown (length st.rules) asked)
Step st forget r after = (r ≡ forgotten) × (after ≡ with_entries st (λ l. definitions (st.entries l)))

-- a list of calls with their replies, the latest first
abbrev pub History : Type 0
History = List (Call × Reply)

-- the history can lead from a new session to this one
pub data LeadsTo : History → State → Type 0 where
  new : {st : State} → Fresh st → LeadsTo [] st
  call : {st after : State} {h : History} (c : Call) (r : Reply) → LeadsTo h st → Step st c r after → LeadsTo ((c, r) ∷ h) after

-- its calls without their replies
abbrev pub calls_of : History → List Call
calls_of [] = []
calls_of (x ∷ h) = x.0 ∷ calls_of h

-- two replies to one question that do not contradict each other
pub record Compatible (r q : Reply) : Type 0 where
  pub open_closed : (n : ℕ) (core : List ℕ) → r ≡ opened n → q ≢ closed core
  pub closed_open : (n : ℕ) (core : List ℕ) → r ≡ closed core → q ≢ opened n
  pub unknown_rule : (k : ℕ) → r ≡ refused 8 k → q ≡ refused 8 k

-- two replies to one call that do not contradict each other
abbrev pub Agrees : Call → Reply → Reply → Type 0
Agrees (add rows) r q = r ≡ q
Agrees (question asked) r q = Compatible r q
Agrees forget r q = r ≡ q

-- nor do any two replies of these histories, call by call
abbrev pub AgreeAll : History → History → Type 0
AgreeAll [] [] = Unit {0}
AgreeAll [] (y ∷ k) = ⊥
AgreeAll (x ∷ h) [] = ⊥
AgreeAll (x ∷ h) (y ∷ k) = Agrees x.0 x.1 y.1 × AgreeAll h k

-- no history of the same calls, over whatever oracle, has replies that contradict those of this one
abbrev pub NeverContradicted : History → Type 0
NeverContradicted h = (k : History) (t : State) → LeadsTo k t → calls_of k ≡ calls_of h → AgreeAll h k

-- what holds of a call after a history: it is a step, to a sound session, and the history with it is never contradicted
pub record CallLawAfter (st : State) (c : Call) (r : Reply) (after : State) (h : History) : Type 0 where
  pub step : Step st c r after
  pub sound : Sound after
  pub agrees : NeverContradicted ((c, r) ∷ h)

-- the same after every history that can lead to the session
abbrev pub CallLaw : State → Call → Reply → State → Type 0
CallLaw st c r after = (h : History) → LeadsTo h st → CallLawAfter st c r after h
