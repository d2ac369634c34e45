-- What each call owes.
use mathlib.Core.Path.{fun_ext}
use Rattle.std.proofs.Common.{◌≡◌, ℕ, ◌+◌, ◌≤◌, true, inl, inr, List, [], ◌∷◌, ◌++◌, map, length, get_or, Ok, Err, Result, sym, refl, ap, ◌∙◌, subst, length-append, arith}
use Rattle.std.proofs.lemmas.Bool.{and_from, cases_lt, le-leb}
use Rattle.std.proofs.lemmas.List.{append-nil, take_all}
use Rattle.std.proofs.lemmas.List.Elements.{filter-append}
use Rattle.lists.proofs.Members.{kept_others, match_length, no_members}
use Rattle.lists.specs.Lists.{In}
use Rattle.fixed_list.proofs.Counted.{length_items}
use Rattle.modal.specs.Rows.{lawful}
use Rattle.modal.specs.Rules.{rows_of}
use Rattle.modal.specs.declared.row.Row.{Row}
use Rattle.modal.specs.declared.rule.Rule.{Rule}
use Rattle.atoms.specs.Clauses.{definitions, is_definition, is_learnt}
use Rattle.atoms.specs.declared.clauses.Entry.{Entry}
use Rattle.clausal.specs.Adding.{Adds}
use Rattle.clausal.specs.Clausal.{Clausal, Naming, Proper, EntryOf, defines_name, defines_rule}
use Rattle.clausal.specs.declared.names.Name.{Name}
use Rattle.clausal.specs.declared.names.Name.TheVariants.{Free as free, Place as place, Handle as handle}
use Rattle.clausal.proofs.Gathered.{gathered}
use Rattle.clausal.proofs.Rows.{lawful_rows, reached_ok}
use Rattle.atoms.specs.declared.clauses.Clause.{Clause}
use Rattle.atoms.specs.declared.clauses.Literal.{Literal}
use Rattle.clausal.specs.Counting.{add_answer}
use Rattle.clausal.specs.Questions.{with_entries}
use Rattle.clausal.specs.States.{State, rule_at}
use Rattle.clausal.specs.declared.faults.AddFault.{AddFault}
use Rattle.clausal.proofs.Kept.{adds_clausal}
use Rattle.clausal.proofs.Limits.{few_definitions_lem}
use Rattle.law.specs.Calls.{add, forget, added, forgotten}
use Rattle.law.specs.Runs.{add_reply, AddStep, CallLaw}
use Rattle.law.proofs.Leading.{owes_step}
use Rattle.naming.specs.Tables.{definition, rules_in, view_of}
use Rattle.naming.specs.declared.table.Table.{Table}
use Rattle.oracle.specs.Oracles.{Lists, Forgets}
use Rattle.session.specs.Defined.{with_fitting, AllDefined}
use Rattle.session.specs.Effects.{TakesRule}

pub owes_forget : (t : Table) (es fs : Lists) → Forgets es fs → CallLaw (view_of t es) forget forgotten (view_of t fs)
owes_forget t es fs f = owes_step (view_of t es) forget forgotten (view_of t fs) (λ s. (refl, ap (view_of t) (fun_ext f)))

pub rule_lawful : (r : Rule) → lawful (rows_of r) ≡ true
rule_lawful r =
    let n = length_items r.list.rows in
    let few : length (rows_of r) ≤ 64 = omega (arith, r.list.rows.within) in
    and_from _ _ (and_from _ _ (le-leb 1 (length (rows_of r)) (omega (arith, r.some))) (le-leb (length (rows_of r)) 64 few)) r.list.fit

-- beyond the last level there is no definition
module _ (st : State) (n : Naming st) (l : ℕ) (beyond : 8 ≤ l) where
  nameless : (r a : ℕ) (x : Name) {xs : List Literal} → Proper st l x → In xs (defines_name st l r a x) → ⊥
  nameless r a free p m = elim m [ ]
  nameless r a (place q k s) (h, x, _) m = let z = (reached_ok (rule_at st q) (lawful_rows (rule_at st q) (n.all_lawful q h)) x).1 in omega arith
  nameless r a (handle q) (h, e) m = omega arith

  no_definitions : (r : ℕ) → defines_rule st l r ≡ []
  no_definitions r = no_members (defines_rule st l r) (λ xs m. (let (i, b, z) = gathered (defines_name st l r) 16 (st.names l) m in nameless r (16 + i) (get_or (st.names l) i free) (n.proper l i) z))

none_given : (st : State) (rows : List Row) (after : State) → Adds st rows after → (l : ℕ) → 8 ≤ l → after.entries l ≡ st.entries l
none_given st rows after a l h =
    let (new, q, _, m) = a.entries l in
    let count = match_length EntryOf m in
    let empty = no_definitions after a.naming l h (length st.rules) in
    q ∙ ap (λ (xs : List Entry). st.entries l ++ xs) (nothing new (omega (arith, count, ap length empty))) ∙ append-nil (st.entries l)
  where
    nothing : (xs : List Entry) → length xs ≡ 0 → xs ≡ []
    nothing [] e = refl
    nothing (x ∷ xs) e = absurd (omega arith)

-- the rule is taken in when its definitions are
pub takes_rule : (t u : Table) (rows : List Row) (es fs : Lists) (cs : ℕ → List Clause) → Adds (view_of t es) rows (view_of u (λ l. es l ++ map definition (cs l))) → AllDefined es fs cs → TakesRule (view_of t es) rows (view_of u fs)
takes_rule t u rows es fs cs a d = record { given = λ l. map definition (cs l); adds = a; entries = λ l. elim (cases_lt l 8) [ inl b ↦ d.levels l b | inr b ↦ d.beyond l b ∙ sym (cut l b) ] }
  where
    cut : (l : ℕ) → 8 ≤ l → with_fitting (es l) (map definition (cs l)) ≡ es l
    cut l b =
        let e = none_given (view_of t es) rows (view_of u (λ l. es l ++ map definition (cs l))) a l b in
        let n : length (map definition (cs l)) ≡ 0 = omega (arith, ap length e, length-append (es l) (map definition (cs l))) in
        ap (λ (xs : List Entry). es l ++ xs) (take_all _ (map definition (cs l)) (omega arith)) ∙ e

-- where the rules that are held have their clausal form, a level has room for all definitions of one more
module _ (st : State) (rows : List Row) (after : State) (c : Clausal st) (t : TakesRule st rows after) where
  abbrev whole : State
  whole = with_entries after (λ l. st.entries l ++ t.given l)

  all_fit : (l : ℕ) → after.entries l ≡ whole.entries l
  all_fit l =
      let (fresh, q, n, _) = t.adds.entries l in
      let es = st.entries l in
      let few = few_definitions_lem whole l (adds_clausal st rows whole t.adds c) in
      let same = ap definitions q ∙ filter-append is_definition es fresh ∙ ap (λ (xs : List Entry). definitions es ++ xs) (kept_others is_learnt fresh n) in
      t.entries l ∙ ap (λ (xs : List Entry). es ++ xs) (take_all _ (t.given l) (omega (arith, few, ap length same, length-append (definitions es) fresh, ap length q, length-append es fresh, length-append es (t.given l))))

  pub adds_whole : Adds st rows after
  adds_whole = subst (Adds st rows) (sym (ap (with_entries after) (fun_ext all_fit))) t.adds

pub owes_added : (st : State) (r : Rule) (after : State) (k : ℕ) → Ok k ≡ add_answer st.rules (rows_of r) → TakesRule st (rows_of r) after → CallLaw st (add (rows_of r)) (added k) after
owes_added st r after k e t = owes_step st (add (rows_of r)) (added k) after (λ s. (rule_lawful r, ap add_reply e, adds_whole st (rows_of r) after s.clausal t))

pub owes_refused : (t u : Table) (es : Lists) (r : Rule) (fault : AddFault) (a : Result ℕ AddFault) → u ≡ t → a ≡ Err fault → Err fault ≡ add_answer (rules_in t) (rows_of r) → CallLaw (view_of t es) (add (rows_of r)) (add_reply a) (view_of u es)
owes_refused t u es r fault a same e q =
    let after = ap (λ (z : Table). view_of z es) same in
    owes_step (view_of t es) (add (rows_of r)) (add_reply a) (view_of u es) (λ s. (rule_lawful r, ap add_reply (e ∙ q), subst (λ (z : Result ℕ AddFault). AddStep (view_of t es) (rows_of r) (view_of u es) (add_reply z)) (sym e) after))
