-- Where calls lead: every session led to is sound, and two runs of the same calls never contradict each other.
use Rattle.std.proofs.Common.{◌≡◌, ℕ, true, List, [], ◌∷◌, length, get_or, Some, None, Option, sym, ap, ◌∙◌, subst, arith, ◌++◌}
use Rattle.modal.specs.Kripke.{meets}
use Rattle.modal.specs.Rows.{says}
use Rattle.modal.specs.declared.row.Row.{Row}
use Rattle.clausal.specs.Counting.{add_answer}
use Rattle.clausal.specs.States.{State}
use Rattle.clausal.specs.Trees.{worlds}
use Rattle.clausal.proofs.Flat.{model_of}
use Rattle.law.specs.Calls.{Call, add, question, forget, Reply, added, opened, closed, forgotten, refused}
use Rattle.law.specs.Runs.{add_reply, unknown, AnswerLaw, AddStep, AskStep, Step, History, LeadsTo, new, call, calls_of, Compatible, Agrees, AgreeAll, CallLaw}
use Rattle.law.specs.Verdicts.{OpenLaw, ClosedLaw, Sound}
use Rattle.law.proofs.Keeping.{fresh_sound, add_sound, learn_sound, forget_sound}

step_sound : (st : State) (c : Call) (r : Reply) (after : State) → Step st c r after → Sound st → Sound after
step_sound st (add rows) r after (_, _, a) s = go r a
  where
    go : (r : Reply) → AddStep st rows after r → Sound after
    go (added k) a = add_sound st rows after a s
    go (refused n d) e = subst Sound (sym e) s
    go (opened n) a = absurd a
    go (closed n) a = absurd a
    go forgotten a = absurd a
step_sound st (question asked) r after a s = go (unknown (length st.rules) asked) a
  where
    go : (o : Option ℕ) → AskStep st asked after r o → Sound after
    go (Some k) (_, e) = subst Sound (sym e) s
    go None q = subst Sound (sym q.left) (learn_sound st q.entries q.learns s q.few)
step_sound st forget r after (_, e) s = subst Sound (sym e) (forget_sound st s)

pub led_sound : {h : History} {st : State} → LeadsTo h st → Sound st
led_sound (new {st = st} f) = fresh_sound st f
led_sound (call {st = st} {after = after} c r led s) = step_sound st c r after s (led_sound led)

-- the rules held after a list of calls, the latest first, are a function of the calls alone
abbrev rules_after : List (List Row) → List Row → Reply → List (List Row)
rules_after rs rows (added _) = rs ++ rows ∷ []
rules_after rs rows (refused _ _) = rs
rules_after rs rows (opened _) = rs
rules_after rs rows (closed _) = rs
rules_after rs rows forgotten = rs

abbrev rules_by : List Call → List (List Row)
rules_by [] = []
rules_by (add rows ∷ cs) = rules_after (rules_by cs) rows (add_reply (add_answer (rules_by cs) rows))
rules_by (question asked ∷ cs) = rules_by cs
rules_by (forget ∷ cs) = rules_by cs

led_rules : {h : History} {st : State} → LeadsTo h st → st.rules ≡ rules_by (calls_of h)
led_rules (new f) = f.rules
led_rules (call {st = st} {after = after} {h = h} c r led s) = go c (led_rules led) s
  where
    adding : (rows : List Row) (r : Reply) → AddStep st rows after r → after.rules ≡ rules_after st.rules rows r
    adding rows (added k) a = a.extends.rules
    adding rows (refused n d) e = ap (λ (z : State). z.rules) e
    adding rows (opened n) a = absurd a
    adding rows (closed n) a = absurd a
    adding rows forgotten a = absurd a

    asking : (asked : List ℕ) (o : Option ℕ) → AskStep st asked after r o → after.rules ≡ st.rules
    asking asked (Some k) (_, e) = ap (λ (z : State). z.rules) e
    asking asked None q = ap (λ (z : State). z.rules) q.left

    go : (c : Call) → st.rules ≡ rules_by (calls_of h) → Step st c r after → after.rules ≡ rules_by (c ∷ calls_of h)
    go (add rows) ih (_, e, a) = adding rows r a ∙ ap (rules_after st.rules rows) e ∙ ap (λ (rs : List (List Row)). rules_after rs rows (add_reply (add_answer rs rows))) ih
    go (question asked) ih a = asking asked (unknown (length st.rules) asked) a ∙ ih
    go forget ih (_, e) = ap (λ (z : State). z.rules) e ∙ ih

-- what is open in one session is not closed in another with the same rules
not_both : (s t : State) (asked core : List ℕ) (n : ℕ) → s.rules ≡ t.rules → OpenLaw s asked n → ClosedLaw t asked core → ⊥
not_both s t asked core n e o c = c.nowhere (model_of o.tree) 0 (model_of o.tree).inhabited (λ k i. subst (λ (rs : List (List Row)). meets (says (get_or rs k [])) (worlds 0 o.tree) 0 ≡ true) e (o.meeting k (c.part k i)))

module _ (s t : State) (e : s.rules ≡ t.rules) (after again : State) (r q : Reply) where
  answers_alike : (asked : List ℕ) → after.rules ≡ again.rules → AnswerLaw after asked r → AnswerLaw again asked q → Compatible r q
  answers_alike asked z a b = record {
    open_closed = λ n core u v. not_both after again asked core n z (subst (AnswerLaw after asked) u a) (subst (AnswerLaw again asked) v b);
    closed_open = λ n core u v. not_both again after asked core n (sym z) (subst (AnswerLaw again asked) v b) (subst (AnswerLaw after asked) u a);
    unknown_rule = λ k u. (let h : ◌≡◌ {A = ℕ} 8 22 = (subst (AnswerLaw after asked) u a).0 in absurd (omega arith));
  }

  asks_alike : (asked : List ℕ) (o : Option ℕ) → AskStep s asked after r o → AskStep t asked again q o → Compatible r q
  asks_alike asked (Some k) (a, _) (b, _) = record {
    open_closed = λ n core u v. (let h : ◌≡◌ {A = ℕ} 0 1 = cc in omega arith);
    closed_open = λ n core u v. (let h : ◌≡◌ {A = ℕ} 0 1 = cc in omega arith);
    unknown_rule = λ j u. cc;
  }
  asks_alike asked None a b = answers_alike asked (ap (λ (z : State). z.rules) a.left ∙ e ∙ sym (ap (λ (z : State). z.rules) b.left)) a.answers b.answers

  step_agrees : (c : Call) → Step s c r after → Step t c q again → Agrees c r q
  step_agrees (add rows) (_, a, _) (_, b, _) = a ∙ ap (λ (rs : List (List Row)). add_reply (add_answer rs rows)) e ∙ sym b
  step_agrees (question asked) a b = asks_alike asked (unknown (length s.rules) asked) a (subst (λ (rs : List (List Row)). AskStep t asked again q (unknown (length rs) asked)) (sym e) b)
  step_agrees forget (a, _) (b, _) = a ∙ sym b

-- two runs of the same calls, over whatever oracles
pub led_agree : {h k : History} {s t : State} → LeadsTo h s → LeadsTo k t → calls_of h ≡ calls_of k → AgreeAll h k
led_agree (new f) (new g) e = tt
led_agree (new f) (call c r led s) e = let z : ◌≡◌ {A = ℕ} 0 1 = cc in omega arith
led_agree (call c r led s) (new g) e = let z : ◌≡◌ {A = ℕ} 0 1 = cc in omega arith
led_agree (call {st = st} {after = after} {h = h} c r led s) (call {st = st'} {after = again} {h = k} d q run t) e =
    let first : c ≡ d = cc in
    let rest : calls_of h ≡ calls_of k = cc in
    (step_agrees st st' (led_rules led ∙ ap rules_by rest ∙ sym (led_rules run)) after again r q c s (subst (λ (x : Call). Step st' x q again) (sym first) t), led_agree led run rest)

-- so a call owes no more than its step, on a sound session
pub owes_step : (st : State) (c : Call) (r : Reply) (after : State) → (Sound st → Step st c r after) → CallLaw st c r after
owes_step st c r after f h led =
    let s = led_sound led in
    let step = f s in
    record { step = step; sound = step_sound st c r after step s; agrees = λ k t run e. led_agree (call c r led step) run (sym e) }
