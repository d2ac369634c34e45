-- A list of calls on a new session, with the replies to them.
use Rattle.std.specs.Prelude.{◌≡◌, List, [], ◌∷◌, length}
use Rattle.modal.specs.Rules.{rows_of}
use Rattle.clausal.specs.States.{State}
use Rattle.law.specs.Calls.{Call, add, question, forget, Reply, forgotten}
use Rattle.law.specs.Runs.{History, LeadsTo, NeverContradicted, add_reply}
use Rattle.law.specs.Verdicts.{Sound}
use Rattle.session.specs.Replies.{numbers_of, question_reply}
use Rattle.session.specs.declared.runs.Call.{Call as Asking}
use Rattle.session.specs.declared.runs.Call.TheVariants.{Add, Question, Forget}
use Rattle.session.specs.declared.runs.Reply.{Reply as Answer}
use Rattle.session.specs.declared.runs.Reply.TheVariants.{Added, Answered, Forgotten}

abbrev pub call_of : Asking → Call
call_of (Add rule) = add (rows_of rule)
call_of (Question rules) = question (numbers_of rules)
call_of Forget = forget

abbrev pub reply_of : Answer → Reply
reply_of (Added r) = add_reply r
reply_of (Answered r) = question_reply r
reply_of Forgotten = forgotten

-- the calls with their replies after those of a history, the latest first
abbrev pub history_from : History → List Asking → List Answer → History
history_from h [] rs = h
history_from h (c ∷ cs) [] = h
history_from h (c ∷ cs) (r ∷ rs) = history_from ((call_of c, reply_of r) ∷ h) cs rs

abbrev pub history : List Asking → List Answer → History
history = history_from []

-- Each call has its reply, the calls with these replies lead from a new session to a sound one, and no history of the same calls, over whatever oracle, contradicts them.
pub record Ran (calls : List Asking) (replies : List Answer) : Type 0 where
  pub each : length replies ≡ length calls
  pub left : State
  pub led : LeadsTo (history calls replies) left
  pub sound : Sound left
  pub agrees : NeverContradicted (history calls replies)
