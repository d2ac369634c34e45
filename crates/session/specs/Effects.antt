-- What each call leaves of a session and of what it is lent, whatever calls came before.
use Rattle.std.specs.Prelude.{◌≡◌, ℕ, ◌<◌, List, ◌++◌, cond, length, Ok, Err, Result, IfOk, IfErr, nat_lt}
use Rattle.modal.specs.Format.{parsed, written, wrote, overlaid}
use Rattle.modal.specs.declared.faults.WriteFault.{WriteFault}
use Rattle.modal.specs.declared.row.Row.{Row}
use Rattle.atoms.specs.declared.clauses.Entry.{Entry}
use Rattle.clausal.specs.Adding.{Adds}
use Rattle.clausal.specs.Counting.{add_answer}
use Rattle.clausal.specs.Questions.{Learns, with_entries}
use Rattle.clausal.specs.States.{State, rule_at}
use Rattle.clausal.specs.declared.faults.AddFault.{AddFault}
use Rattle.engine.specs.Drawing.{drawn, blank_sheet}
use Rattle.engine.specs.Outcomes.{Opened}
use Rattle.law.specs.Runs.{History, LeadsTo, unknown as lowest_unknown}
use Rattle.law.specs.Verdicts.{handles, OpenLaw}
use Rattle.naming.specs.Tables.{rules_in}
use Rattle.oracle.specs.Oracles.{Forgets, Lists}
use Rattle.sheet.specs.declared.row.SheetRow.{SheetRow}
use Rattle.session.specs.Defined.{with_fitting}
use Rattle.session.specs.Replies.{unknown_in}
use Rattle.session.specs.View.{table_of, lists_of, view}
use Rattle.session.specs.declared.faults.QuestionFault.{QuestionFault}
use Rattle.session.specs.declared.faults.QuestionFault.TheVariants.{UnknownRule, LevelFull}
use Rattle.session.specs.declared.faults.RuleFault.{RuleFault}
use Rattle.session.specs.declared.faults.RuleFault.TheVariants.{UnknownRule as NotHeld, NotWritten}
use Rattle.session.specs.declared.session.Session.{Session}
use Rattle.session.specs.declared.verdict.Verdict.{Verdict}
use Rattle.session.specs.declared.verdict.Verdict.TheVariants.{Open, Closed}

-- The session holds one rule more, with its definitions after the entries, as many as each level has room for. On a session that calls have left each level has room for all.
pub record TakesRule (before : State) (rows : List Row) (after : State) : Type 0 where
  pub given : ℕ → List Entry
  pub adds : Adds before rows (with_entries after (λ l. before.entries l ++ given l))
  pub entries : (l : ℕ) → after.entries l ≡ with_fitting (before.entries l) (given l)

-- Adding a rule: its number or the refusal, which takes in the rule or leaves the session as it was.
pub record AddEffect {O : Type 0} (entries : O → Lists) (before after : Session O) (rows : List Row) (answer : Result ℕ AddFault) : Type 0 where
  pub answered : answer ≡ add_answer (rules_in (table_of before)) rows
  pub taken : IfOk answer (λ _. TakesRule (view entries before) rows (view entries after))
  pub refused : IfErr answer (λ _. after ≡ before)

-- some list of calls can have left the session
abbrev pub LeftByCalls : State → Type 0
LeftByCalls st = (h : History) × LeadsTo h st

-- the law of an open question holds of a tree that the sheet shows if it fits
pub record OpenLawShown (after : State) (asked : List ℕ) (count room : ℕ) (sheet : List SheetRow) : Type 0 where
  pub law : OpenLaw after asked count
  pub shown : sheet ≡ drawn room law.tree

-- The sheet after an open question: it shows a complete tree if it fits, and on a session that calls have left that is the tree of the law.
pub record Shows (before after : State) (asked : List ℕ) (count room : ℕ) (sheet : List SheetRow) : Type 0 where
  pub complete : Opened before (handles before asked) room sheet count
  pub lawful : LeftByCalls before → OpenLawShown after asked count room sheet

-- The sheet that a question leaves: after open as above, after closed or 22 blank rows, after 8 what it was.
abbrev pub SheetLeft : State → State → List ℕ → List SheetRow → List SheetRow → Result Verdict QuestionFault → Type 0
SheetLeft before after asked old new (Ok (Open count)) = Shows before after asked count (length old) new
SheetLeft before after asked old new (Ok (Closed core)) = new ≡ blank_sheet (length old)
SheetLeft before after asked old new (Err (UnknownRule number)) = new ≡ old
SheetLeft before after asked old new (Err (LevelFull level)) = new ≡ blank_sheet (length old)

-- A question, over the session and the sheet.
pub record QuestionEffect {O : Type 0} (entries : O → Lists) (before after : Session O) (asked : List ℕ) (old new : List SheetRow) (answer : Result Verdict QuestionFault) : Type 0 where
  -- it is refused with 8 just if a number asked is no rule's, and names the lowest such
  pub unknown : unknown_in answer ≡ lowest_unknown (length (rules_in (table_of before))) asked
  -- and then the session is as it was
  pub refused : (number : ℕ) → answer ≡ Err (UnknownRule number) → after ≡ before
  -- the rules stay, with their names, box clauses and diamond clauses
  pub table : table_of after ≡ table_of before
  -- entries are only appended, and each is learnt
  pub learns : Learns (view entries before) (lists_of entries after)
  pub sheet : SheetLeft (view entries before) (view entries after) asked old new answer

-- Forgetting: the rules stay, and of the entries the definitions.
pub record ForgetEffect {O : Type 0} (entries : O → Lists) (before after : Session O) : Type 0 where
  pub table : table_of after ≡ table_of before
  pub definitions : Forgets (lists_of entries before) (lists_of entries after)

abbrev pub buffer_answer : Result ℕ WriteFault → Result ℕ RuleFault
buffer_answer (Ok n) = Ok n
buffer_answer (Err fault) = Err (NotWritten fault)

-- Writing a rule: its bytes stand at the start of the buffer, the rest of it is as it was, and the bytes say the rule's rows; or no rule has the number, or the buffer is too short, and it is as it was.
pub record WritesRule (st : State) (number : ℕ) (before after : List ℕ) (r : Result ℕ RuleFault) : Type 0 where
  pub answer : r ≡ cond (nat_lt number (length st.rules)) (buffer_answer (wrote (written (rule_at st number)) before)) (Err (NotHeld number))
  pub buffer : after ≡ cond (nat_lt number (length st.rules)) (overlaid (written (rule_at st number)) before) before
  pub again : number < length st.rules → parsed (written (rule_at st number)) ≡ Ok (rule_at st number)
