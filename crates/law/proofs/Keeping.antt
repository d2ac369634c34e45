-- What every session that calls can leave keeps: each call keeps it.
use Rattle.std.proofs.Common.{◌≡◌, ℕ, zero, suc, ◌+◌, ◌<◌, ◌≤◌, not, ◌⊎◌, List, [], ◌++◌, length, get_or, take, sym, refl, ap, ◌∙◌, subst, inl, inr, arith}
use Rattle.std.proofs.lemmas.List.Elements.{filter-append}
use Rattle.std.proofs.lemmas.List.{append-nil, get_or_append_left}
use Rattle.std.proofs.lemmas.Bool.{cases_lt}
use Rattle.lists.specs.Lists.{In}
use Rattle.lists.proofs.Members.{every_in, in_kept, kept_in, kept_nothing, get_or_in, in_get_or, kept_twice}
use Rattle.atoms.proofs.Marked.{none_learnt}
use Rattle.modal.specs.declared.row.Row.{Row}
use Rattle.atoms.specs.Clauses.{makes_all, is_learnt, is_definition, learnt, definitions}
use Rattle.atoms.specs.declared.clauses.Entry.{Entry}
use Rattle.clausal.specs.Adding.{Fresh, Adds}
use Rattle.clausal.specs.Clausal.{DefinedBy, Naming, Clausal}
use Rattle.clausal.specs.Questions.{with_entries, LearntFrom, Learns}
use Rattle.clausal.specs.States.{State, Forced}
use Rattle.clausal.proofs.Kept.{fresh_clausal, adds_clausal, written_kept}
use Rattle.clausal.proofs.Modals.{diamonds_orderly}
use Rattle.law.specs.Verdicts.{LearntNeeded, NegatesNames, Sound}
use Rattle.law.proofs.Adding.{negates_kept, forced_kept}
use Rattle.law.proofs.Learning.{LevelForced, level_forced, learnt_forced, learnt_new, learnt_negates}
use Rattle.law.proofs.Needing.{needed_definitions, needed_append, needed_more}

pub fresh_sound : (st : State) → Fresh st → Sound st
fresh_sound st f = record {
  clausal = fresh_clausal st f;
  forced = λ l e i. elim (subst (In e) (f.defined l) i) [ ];
  negates = λ l e i. elim (subst (In e) (f.defined l) i) [ ];
  needed = λ l. needed_definitions (st.entries l) (f.defined l);
  few = λ l. omega (arith, ap length (f.defined l));
}

pub add_sound : (st : State) (rows : List Row) (after : State) → Adds st rows after → Sound st → Sound after
add_sound st rows after a s = record {
  clausal = adds_clausal st rows after a s.clausal;
  forced = λ l e i. (let j = subst (In e) (old l) i in forced_kept st rows after a s.clausal l e.clause (s.negates l e j) (s.forced l e j));
  negates = λ l e i. negates_kept st rows after a s.clausal l e.clause (s.negates l e (subst (In e) (old l) i));
  needed = λ l. (let (fresh, q, n, _) = a.entries l in subst LearntNeeded (sym q) (needed_more (st.entries l) fresh (s.needed l) n));
  few = λ l. (let h = s.few l in omega (arith, ap length (old l)));
}
  where
    old : (l : ℕ) → learnt (after.entries l) ≡ learnt (st.entries l)
    old l = let (fresh, q, n, _) = a.entries l in ap learnt q ∙ filter-append is_learnt (st.entries l) fresh ∙ ap (λ (z : List Entry). learnt (st.entries l) ++ z) n ∙ append-nil (learnt (st.entries l))

-- other entries with the same definitions are still the clausal form
pub entries_clausal : (st : State) (es : ℕ → List Entry) → Clausal st → ((l : ℕ) → definitions (es l) ≡ definitions (st.entries l)) → Clausal (with_entries st es)
entries_clausal st es cl d = record {
  naming = again cl.naming;
  boxes = cl.boxes;
  diamonds = cl.diamonds;
  written = λ l. subst (DefinedBy (with_entries st es) l (length st.rules)) (sym (d l)) (written_kept st (with_entries st es) l (length st.rules) (definitions (st.entries l)) (λ r h. refl) (cl.written l));
}
  where
    again : Naming st → Naming (with_entries st es)
    again t = record { held = t.held; all_lawful = t.all_lawful; room = t.room; proper = t.proper; named = t.named; handled = t.handled; once = t.once }

-- what a question learns
module _ (st : State) (es : ℕ → List Entry) (n : Learns st es) where
  pub same_definitions : (l : ℕ) → definitions (es l) ≡ definitions (st.entries l)
  same_definitions l =
      let (new, e, m) = n.grown l in
      ap definitions e ∙ filter-append is_definition (st.entries l) new ∙ ap (λ (z : List Entry). definitions (st.entries l) ++ z) (kept_nothing is_definition new (λ x i. ap not (every_in is_learnt i m))) ∙ append-nil (definitions (st.entries l))

  pub learn_clausal : Clausal st → Clausal (with_entries st es)
  learn_clausal cl = entries_clausal st es cl same_definitions

  -- a learnt entry was there before, or was learnt now
  abbrev Origin : ℕ → Entry → Type 0
  Origin l e = In e (learnt (st.entries l)) ⊎ ((i : ℕ) × LearntFrom st es l i e)

  origin : (l : ℕ) (e : Entry) → In e (learnt (es l)) → Origin l e
  origin l e i =
      let (j, q) = kept_in is_learnt (es l) i in
      let (k, b, z) = in_get_or e j in
      elim (cases_lt k (length (st.entries l))) [
        | inl c ↦ (let (new, p, _) = n.grown l in inl (in_kept is_learnt (subst (λ (x : Entry). In x (st.entries l)) (sym (get_or_append_left (st.entries l) new e k c) ∙ ap (λ (xs : List Entry). get_or xs k e) (sym p) ∙ z) (get_or_in (st.entries l) k e c)) q))
        | inr c ↦ inr (k, n.each l k e c b z)
      ]

  module _ (s : Sound st) where
    cl : Clausal (with_entries st es)
    cl = learn_clausal s.clausal

    -- nothing is learnt at the last level, where no diamond is
    none_last : (l i : ℕ) (e : Entry) → 7 ≤ l → LearntFrom st es l i e → ⊥
    none_last l i e h t =
        let d = (kept_in _ (st.diamonds l) t.clause.fires).0 in
        let none_there : st.diamonds l ≡ [] = s.clausal.diamonds l ∙ (diamonds_orderly st s.clausal.naming l).last h in
        elim (subst (In t.diamond) none_there d) [ ]

    -- so all that is learnt is forced, from the last level up
    forced_there : (l : ℕ) (e : Entry) → ((i : ℕ) → LearntFrom st es l i e → Forced (with_entries st es) l e.clause) → Origin l e → Forced (with_entries st es) l e.clause
    forced_there l e f (inl j) = s.forced l e j
    forced_there l e f (inr (i, t)) = f i t

    levels_forced : (k l : ℕ) → 7 ≤ k + l → LevelForced (with_entries st es) l
    levels_forced zero l h = level_forced (with_entries st es) cl l (λ e i. forced_there l e (λ j t. absurd (none_last l j e (omega arith) t)) (origin l e i))
    levels_forced (suc k) l h =
        let next = levels_forced k (suc l) (omega arith) in
        level_forced (with_entries st es) cl l (λ e i. forced_there l e (λ j t. learnt_forced st es cl l t.valuation t.diamond t.core e.clause t.clause next t.found) (origin l e i))

    negates_there : (l : ℕ) (e : Entry) → Origin l e → NegatesNames (with_entries st es) l e.clause
    negates_there l e (inl j) = let g = s.negates l e j in record { diamond = g.diamond; from = g.from; named = g.named; others = g.others; no_plain = g.no_plain }
    negates_there l e (inr (i, t)) = learnt_negates st es cl l t.valuation t.diamond t.core e.clause t.clause

    pub learn_sound : ((l : ℕ) → length (learnt (es l)) ≤ 128) → Sound (with_entries st es)
    learn_sound few = record {
      clausal = cl;
      forced = λ l e i. levels_forced 7 l (omega arith) e (kept_in is_learnt (es l) i).0;
      negates = λ l e i. negates_there l e (origin l e i);
      needed = λ l. (let (new, p, _) = n.grown l in subst LearntNeeded (sym p) (needed_append (st.entries l) new (s.needed l) (λ i e b h q le. (let t = n.each l i e b (subst (λ (xs : List Entry). i < length xs) (sym p) h) (ap (λ (xs : List Entry). get_or xs i e) p ∙ q) in (t.valuation, ap (λ (xs : List Entry). makes_all t.valuation (take i xs)) (sym p) ∙ t.earlier, learnt_new st es cl l t.valuation t.diamond t.core e.clause t.clause)))));
      few = few;
    }

pub forget_sound : (st : State) → Sound st → Sound (with_entries st (λ l. definitions (st.entries l)))
forget_sound st s = record {
  clausal = entries_clausal st (λ l. definitions (st.entries l)) s.clausal (λ l. kept_twice is_definition (st.entries l));
  forced = λ l e i. elim (subst (In e) (none_learnt (st.entries l)) i) [ ];
  negates = λ l e i. elim (subst (In e) (none_learnt (st.entries l)) i) [ ];
  needed = λ l. needed_definitions (definitions (st.entries l)) (none_learnt (st.entries l));
  few = λ l. omega (arith, ap length (none_learnt (st.entries l)));
}
