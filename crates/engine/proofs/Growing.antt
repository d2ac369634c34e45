-- A learnt entry stays the clause of its core when entries are appended.
use Rattle.std.proofs.Common.{◌≡◌, ℕ, suc, ◌<◌, ◌≤◌, Bool, true, ◌⊎◌, List, [], ◌∷◌, ◌++◌, length, get_or, take, sym, refl, ap, ◌∙◌, subst, inl, inr, arith, length-append}
use Rattle.std.proofs.Math.Seq.{get_or-append_seam, take-append_seam}
use Rattle.std.proofs.lemmas.Bool.{and_parts, and_from, cases_eq, cases_lt}
use Rattle.std.proofs.lemmas.List.{append-nil, append_assoc, get_or_append_left, take-append-le}
use Rattle.std.proofs.lemmas.List.Elements.{filter-append}
use Rattle.std.specs.Prelude.{◌≢◌}
use Rattle.lists.specs.Lists.{every}
use Rattle.lists.proofs.Members.{every_append}
use Rattle.atoms.specs.Clauses.{Valuation, makes_all, is_learnt, learnt}
use Rattle.atoms.specs.declared.clauses.Entry.{Entry}
use Rattle.atoms.specs.declared.clauses.Literal.{Literal}
use Rattle.clausal.specs.Questions.{with_entries, part_of, CoreOf, LearntClause, LearntFrom, Learns, FewLearnt}
use Rattle.clausal.specs.States.{State}
use Rattle.clausal.specs.declared.modal_clauses.ModalClause.{ModalClause}
use Rattle.oracle.specs.Oracles.{Lists}

pub every_left : {A : Type 0} (p : A → Bool) (xs ys : List A) → every p (xs ++ ys) ≡ true → every p xs ≡ true
every_left p [] ys h = refl
every_left p (x ∷ xs) ys h = let (a, b) = and_parts (p x) (every p (xs ++ ys)) h in and_from (p x) (every p xs) a (every_left p xs ys b)

-- each level has the entries that it had, and perhaps more after them
abbrev pub Appends : Lists → Lists → Type 0
Appends es es' = (l : ℕ) → (new : List Entry) × (es' l ≡ es l ++ new)

pub core_more : (st : State) (es es' : Lists) (l : ℕ) (xs core : List Literal) → Appends es es' → CoreOf (with_entries st es) l xs core → CoreOf (with_entries st es') l xs core
core_more st es es' l xs core a k = record { part = k.part; unsatisfiable = λ v o m. k.unsatisfiable v o (every_left _ (es l) (a l).0 (ap (makes_all v) (sym (a l).1) ∙ m)) }

pub learnt_more : (st : State) (es es' : Lists) (l i : ℕ) (e : Entry) → Appends es es' → i ≤ length (es l) → LearntFrom st es l i e → LearntFrom st es' l i e
learnt_more st es es' l i e a h t =
    record {
      valuation = t.valuation;
      earlier = ap (makes_all t.valuation) (ap (take i) (a l).1 ∙ take-append-le i (es l) (a l).0 h) ∙ t.earlier;
      diamond = t.diamond;
      core = t.core;
      found = core_more st es es' (suc l) (part_of st l t.valuation t.diamond) t.core a t.found;
      clause = t.clause;
    }

-- nothing is learnt yet
pub learns_nothing : (st : State) (es : Lists) → ((l : ℕ) → st.entries l ≡ es l) → Learns st es
learns_nothing st es same =
    record {
      grown = λ l. ([], sym (same l) ∙ sym (append-nil (st.entries l)), refl);
      each = λ l i e b h q. let n = ap length (same l) in absurd (omega arith);
    }

pub few_same : (st : State) (es : Lists) → ((l : ℕ) → st.entries l ≡ es l) → FewLearnt st.entries → FewLearnt es
few_same st es same f l = subst (λ (ys : List Entry). length (learnt ys) ≤ 128) (same l) (f l)

-- the entry comes after those that a world's valuation made true
pub learnt_next : (st : State) (es : Lists) (l : ℕ) (e : Entry) (v : Valuation) (d : ModalClause) (core : List Literal) → makes_all v (es l) ≡ true → CoreOf (with_entries st es) (suc l) (part_of st l v d) core → LearntClause st l v d core e.clause → LearntFrom st es l (length (es l)) e
learnt_next st es l e v d core made found given =
    record {
      valuation = v;
      earlier = ap (makes_all v) (ap (take (length (es l))) (sym (append-nil (es l))) ∙ take-append_seam (es l) []) ∙ made;
      diamond = d;
      core = core;
      found = found;
      clause = given;
    }

learnt_push : (es : List Entry) (e : Entry) → is_learnt e ≡ true → learnt (es ++ e ∷ []) ≡ learnt es ++ e ∷ []
learnt_push es e h = filter-append is_learnt es (e ∷ []) ∙ ap (λ ys. learnt es ++ ys) (rw h refl)

-- one entry more is learnt
module _ (es es' : Lists) (l : ℕ) (e : Entry) (learning : is_learnt e ≡ true) (others : (k : ℕ) → (k ≢ l) → es' k ≡ es k) (now : es' l ≡ es l ++ e ∷ []) where
  at_each : (P : ℕ → List Entry → Type 0) → ((k : ℕ) → P k (es k)) → P l (es l ++ e ∷ []) → (k : ℕ) → P k (es' k)
  at_each P old new k = pick (cases_eq k l)
    where
      pick : (k ≡ l) ⊎ (k ≢ l) → P k (es' k)
      pick (inl q) = subst (λ (j : ℕ). P j (es' j)) (sym q) (subst (P l) (sym now) new)
      pick (inr ne) = subst (P k) (sym (others k ne)) (old k)

  pub appends : Appends es es'
  appends = at_each (λ k ys. (new : List Entry) × (ys ≡ es k ++ new)) (λ k. ([], sym (append-nil (es k)))) (e ∷ [], refl)

  pub few_more : length (learnt (es l)) < 128 → FewLearnt es → FewLearnt es'
  few_more lt f = at_each (λ k ys. length (learnt ys) ≤ 128) f (rw (learnt_push (es l) e learning) (omega (arith, length-append (learnt (es l)) (e ∷ []))))

  pub learns_more : (st : State) → Learns st es → LearntFrom st es l (length (es l)) e → Learns st es'
  learns_more st k t =
      record {
        grown = at_each (λ j ys. (new : List Entry) × (ys ≡ st.entries j ++ new) × (every is_learnt new ≡ true)) k.grown
            (let g = k.grown l in (g.0 ++ e ∷ [], ap (λ ys. ys ++ e ∷ []) g.1 ∙ append_assoc (st.entries l) g.0 (e ∷ []), every_append is_learnt g.0 (e ∷ []) g.2 (rw learning refl)));
        each = at_each (λ j ys. (i : ℕ) (x : Entry) → length (st.entries j) ≤ i → i < length ys → get_or ys i x ≡ x → LearntFrom st es' j i x)
            (λ j i x b h q. learnt_more st es es' j i x appends (omega arith) (k.each j i x b h q))
            (λ i x b h q. learnt_more st es es' l i x appends (omega (arith, length-append (es l) (e ∷ []))) (pick i x b h q (cases_lt i (length (es l)))));
      }
    where
      pick : (i : ℕ) (x : Entry) → length (st.entries l) ≤ i → i < length (es l ++ e ∷ []) → get_or (es l ++ e ∷ []) i x ≡ x → (i < length (es l)) ⊎ (length (es l) ≤ i) → LearntFrom st es l i x
      pick i x b h q (inl lt) = k.each l i x b lt (sym (get_or_append_left (es l) (e ∷ []) x i lt) ∙ q)
      pick i x b h q (inr ge) =
          let n = length-append (es l) (e ∷ []) in
          let last : length (es l) ≡ i = omega arith in
          let same : e ≡ x = sym (get_or-append_seam (es l) e [] x) ∙ ap (λ (j : ℕ). get_or (es l ++ e ∷ []) j x) last ∙ q in
          subst (LearntFrom st es l i) same (subst (λ (j : ℕ). LearntFrom st es l j e) last t)
