-- What a question owes and what it leaves, from what was assumed and what the search of worlds ends with.
use Rattle.std.proofs.Common.{◌≡◌, ℕ, ◌<◌, true, List, length, Some, None, Ok, Err, Result, sym, refl, ap, ◌∙◌, subst}
use Rattle.lists.specs.Lists.{In}
use Rattle.lists.proofs.Members.{every_in}
use Rattle.atoms.specs.Assuming.{Obeys, assumes}
use Rattle.atoms.specs.Clauses.{Valuation, obeys_one}
use Rattle.atoms.specs.declared.assumptions.Assumptions.{Assumptions}
use Rattle.atoms.specs.declared.clauses.Literal.{Literal}
use Rattle.clausal.specs.States.{State, obeys_all}
use Rattle.engine.specs.Outcomes.{QuestionLeaves, Questioned}
use Rattle.engine.specs.declared.outcome.Outcome.{Outcome}
use Rattle.engine.specs.declared.outcome.Outcome.TheVariants.{Open as engine_open, Closed as engine_closed, Full as engine_full}
use Rattle.engine.proofs.Growing.{learns_nothing}
use Rattle.firing.specs.Firing.{AssumesJust}
use Rattle.law.specs.Calls.{Reply, question, opened, closed, refused}
use Rattle.law.specs.Runs.{AnswerLaw, AskStep, CallLaw, unknown}
use Rattle.law.specs.Verdicts.{handles, Sound}
use Rattle.law.proofs.Answering.{answer_open, answer_closed, answer_full, complete_meets, still_complete}
use Rattle.law.proofs.Leading.{led_sound, owes_step}
use Rattle.law.proofs.Learning.{handles_in, in_handles}
use Rattle.naming.specs.Tables.{rules_in}
use Rattle.oracle.specs.Oracles.{Lists}
use Rattle.session.specs.Assumed.{handle_in, Assumes, NamesUnknown, KeepsIn}
use Rattle.session.specs.Effects.{LeftByCalls, OpenLawShown, SheetLeft, QuestionEffect}
use Rattle.session.specs.Replies.{numbers_of, question_reply, unknown_in}
use Rattle.session.specs.View.{lists_of, view}
use Rattle.session.specs.declared.faults.QuestionFault.{QuestionFault}
use Rattle.session.specs.declared.faults.QuestionFault.TheVariants.{UnknownRule, LevelFull}
use Rattle.session.specs.declared.session.Session.{Session}
use Rattle.session.specs.declared.verdict.Verdict.{Verdict}
use Rattle.session.specs.declared.verdict.Verdict.TheVariants.{Open, Closed}
use Rattle.session.proofs.Unknown.{asked_bit, bit_asked, none_unknown, unknown_number}
use Rattle.sheet.specs.declared.row.SheetRow.{SheetRow}

-- a question to a session, with a sheet
module _ {O : Type 0} (entries : O → Lists) (s : Session O) (q : ℕ) (sheet : List SheetRow) where
  abbrev st : State
  st = view entries s

  abbrev asked : List ℕ
  asked = numbers_of q

  -- a number asked is no rule's
  module _ (fault : QuestionFault) (u : NamesUnknown s.table q fault) (r : Result Verdict QuestionFault) (e : r ≡ Err fault) where
    lowest : unknown (length (rules_in s.table)) asked ≡ Some u.number
    lowest = unknown_number s.table q u.number u.unknown

    is : r ≡ Err (UnknownRule u.number)
    is = e ∙ ap Err u.is

    pub unknown_owes : CallLaw st (question asked) (question_reply r) st
    unknown_owes = owes_step st (question asked) (question_reply r) st (λ _. subst (AskStep st asked st (question_reply r)) (sym lowest) (ap question_reply is, refl))

    pub unknown_effect : QuestionEffect entries s s asked sheet sheet r
    unknown_effect = subst (QuestionEffect entries s s asked sheet sheet) (sym is) (record { unknown = sym lowest; refused = λ _ _. refl; table = refl; learns = learns_nothing st (lists_of entries s) (λ l. refl); sheet = refl })

  -- all are rules', and the search of worlds under their handles leaves the oracle
  module _ (under : Assumptions) (a : Assumes s.table q 16 under) (oracle : O) where
    abbrev left : Session O
    left = record { oracle = oracle; table = s.table }

    abbrev after : State
    after = view entries left

    held : (k : ℕ) → In k asked → k < length (rules_in s.table)
    held k m = let (h, b) = asked_bit q k m in (a.held k h b).held

    all_known : unknown (length (rules_in s.table)) asked ≡ None
    all_known = none_unknown (length (rules_in s.table)) asked held

    stands : AssumesJust under (handles st asked)
    stands = record {
      each = λ x m h. (let (k, i, e) = handles_in st asked m in let (l, b) = asked_bit q k i in subst (λ y. assumes under y ≡ true) (sym e) (a.each k l b));
      only = λ x e. (let (k, h, b, i) = a.only x e in subst (λ y. In y (handles st asked)) (sym i) (in_handles st (bit_asked q k h b)));
    }

    small : (x : Literal) → In x (handles st asked) → x.atom < 64
    small x m = let (k, i, e) = handles_in st asked m in let (l, b) = asked_bit q k i in subst (λ (y : Literal). y.atom < 64) (sym e) (a.held k l b).small

    module _ (sheet' : List SheetRow) where
      abbrev Ends : Outcome → Type 0
      Ends = Questioned s.table (entries s.oracle) (entries oracle) under sheet sheet'

      leaves : (o : Outcome) → Ends o → QuestionLeaves st (entries oracle) (handles st asked) (length sheet) sheet' o
      leaves o e = e st (handles st asked) (record { clauses = record { boxes = λ l. refl; diamonds = λ l. refl }; entries = λ l. refl }) stands small

      owes : (o : Outcome) (r : Reply) → Ends o → (Sound st → AnswerLaw after asked r) → CallLaw st (question asked) r after
      owes o r e f = let d = leaves o e in owes_step st (question asked) r after (λ s. subst (AskStep st asked after r) (sym all_known) (record { entries = entries oracle; left = refl; learns = d.learns; few = d.few s.few; answers = f s }))

      effect : (o : Outcome) (r : Result Verdict QuestionFault) → Ends o → unknown_in r ≡ None → SheetLeft st after asked sheet sheet' r → QuestionEffect entries s left asked sheet sheet' r
      effect o r e n d = record { unknown = n ∙ sym all_known; refused = λ k i. (let z = sym n ∙ ap unknown_in i in absurd cc); table = refl; learns = (leaves o e).learns; sheet = d }

      module _ (n : ℕ) (e : Ends (engine_open n)) where
        when_open : QuestionLeaves st (entries oracle) (handles st asked) (length sheet) sheet' (engine_open n)
        when_open = leaves (engine_open n) e

        pub open_owes : CallLaw st (question asked) (opened n) after
        open_owes = owes (engine_open n) (opened n) e (λ s. answer_open st s (entries oracle) when_open.learns (when_open.few s.few) asked held when_open.ends.tree when_open.ends.whole n when_open.ends.counted)

        law_shown : LeftByCalls st → OpenLawShown after asked n (length sheet) sheet'
        law_shown (h, led) =
            let s = led_sound led in
            let w = still_complete st s (entries oracle) when_open.learns (when_open.few s.few) asked held when_open.ends.tree when_open.ends.whole in
            record { law = record { tree = when_open.ends.tree; whole = w; counted = when_open.ends.counted; meeting = complete_meets st s (entries oracle) when_open.learns (when_open.few s.few) asked held when_open.ends.tree w }; shown = when_open.ends.shown }

        pub open_effect : QuestionEffect entries s left asked sheet sheet' (Ok (Open n))
        open_effect = effect (engine_open n) (Ok (Open n)) e refl (record { complete = when_open.ends; lawful = law_shown })

      module _ (core : Assumptions) (e : Ends (engine_closed core)) (kept : ℕ) (c : KeepsIn s.table q core 16 kept) where
        when_closed : QuestionLeaves st (entries oracle) (handles st asked) (length sheet) sheet' (engine_closed core)
        when_closed = leaves (engine_closed core) e

        part : (k : ℕ) → In k (numbers_of kept) → In k asked
        part k m = let (h, b) = c.part k (asked_bit kept k m).1 in bit_asked q k h b

        obeys : (v : Valuation) → obeys_all v (handles after (numbers_of kept)) ≡ true → Obeys v core
        obeys v o x z =
            let (k, m, i) = handles_in st asked (when_closed.ends.part x z) in
            let (h, b) = asked_bit q k m in
            let y : assumes core (record { atom = handle_in s.table k; holds = true }) ≡ true = subst (λ w. assumes core w ≡ true) i z in
            subst (λ w. obeys_one v w ≡ true) (sym i) (every_in (obeys_one v) (in_handles after (bit_asked kept k h (c.whole k h (a.held k h b) y))) o)

        pub closed_owes : CallLaw st (question asked) (closed (numbers_of kept)) after
        closed_owes = owes (engine_closed core) (closed (numbers_of kept)) e (λ s. answer_closed st s (entries oracle) when_closed.learns (when_closed.few s.few) asked held (numbers_of kept) part (λ v o m. when_closed.ends.unsatisfiable v (obeys v o) m))

        pub closed_effect : QuestionEffect entries s left asked sheet sheet' (Ok (Closed kept))
        closed_effect = effect (engine_closed core) (Ok (Closed kept)) e refl when_closed.ends.blank

      module _ (l : ℕ) (e : Ends (engine_full l)) where
        when_full : QuestionLeaves st (entries oracle) (handles st asked) (length sheet) sheet' (engine_full l)
        when_full = leaves (engine_full l) e

        pub full_owes : CallLaw st (question asked) (refused 22 l) after
        full_owes = owes (engine_full l) (refused 22 l) e (λ s. (refl, answer_full st s (entries oracle) when_full.learns (when_full.few s.few) asked held l when_full.ends.literals when_full.ends.core when_full.ends.valuation when_full.ends.diamond when_full.ends.many when_full.ends.reached when_full.ends.allowed when_full.ends.fires when_full.ends.lost))

        pub full_effect : QuestionEffect entries s left asked sheet sheet' (Err (LevelFull l))
        full_effect = effect (engine_full l) (Err (LevelFull l)) e refl when_full.ends.blank
