-- What is learnt is forced, needed and made of negated names; and what a core at level 0 shows.
use Rattle.std.proofs.Common.{◌≡◌, ℕ, suc, ◌<◌, true, false, not, ◌⊎◌, List, [], ◌∷◌, length, sym, refl, ap, ◌∙◌, inl, inr}
use mathlib.Core.Bool.{false≢true}
use Rattle.std.proofs.lemmas.Bool.{both_ways, cases_Bool}
use Rattle.lists.specs.Lists.{In, here, there}
use Rattle.lists.proofs.Members.{every_in, every_from, kept_in, in_kept}
use Rattle.modal.specs.Kripke.{Model, World, meets}
use Rattle.modal.specs.Rows.{says}
use Rattle.modal.proofs.Models.{successor_inside}
use Rattle.atoms.specs.Clauses.{Valuation, obeys_one, makes, makes_all, is_learnt, is_definition, learnt, negation, positive}
use Rattle.atoms.specs.Sets.{has}
use Rattle.atoms.specs.declared.clauses.Clause.{Clause}
use Rattle.atoms.specs.declared.clauses.Entry.{Entry}
use Rattle.atoms.specs.declared.clauses.Literal.{Literal}
use Rattle.clausal.specs.Clausal.{Clausal}
use Rattle.clausal.specs.Questions.{with_entries, part_of, CannotExist, CoreOf, negations, LearntClause}
use Rattle.clausal.specs.States.{State, rule_at, at_world, Forced, reads_name, obeys_all, handle_of}
use Rattle.clausal.specs.declared.modal_clauses.ModalClause.{ModalClause}
use Rattle.clausal.proofs.Forms.{clause_made, clause_cases}
use Rattle.clausal.proofs.Reading.{handle_at, reading_name}
use Rattle.clausal.proofs.Soundness.{definition_true, box_true, diamond_true}
use Rattle.law.specs.Verdicts.{handles, ClosedLaw, NegatesNames}
use Rattle.lists.proofs.Maps.{in_mapped, mapped_in}

in_negations : {b : ModalClause} {bs : List ModalClause} → In b bs → In (negation b.name) (negations bs)
in_negations here = here
in_negations (there i) = there (in_negations i)

negations_in : (bs : List ModalClause) {x : Literal} → In x (negations bs) → (b : ModalClause) × In b bs × (x ≡ negation b.name)
negations_in [] i = elim i [ ]
negations_in (b ∷ bs) here = (b, here, refl)
negations_in (b ∷ bs) (there i) = let (a, j, e) = negations_in bs i in (a, there j, e)

pub in_handles : (st : State) {k : ℕ} {ks : List ℕ} → In k ks → In (positive (handle_of st k)) (handles st ks)
in_handles st i = in_mapped (λ k. positive (handle_of st k)) i

pub handles_in : (st : State) (ks : List ℕ) {x : Literal} → In x (handles st ks) → (k : ℕ) × In k ks × (x ≡ positive (handle_of st k))
handles_in st ks i = let (k, j, e) = mapped_in (λ k. positive (handle_of st k)) ks i in (k, j, sym e)

-- every entry of the level is forced
abbrev pub LevelForced : State → ℕ → Type 0
LevelForced st l = (e : Entry) → In e (st.entries l) → Forced st l e.clause

-- then every world makes them all true
all_made : (st : State) (l : ℕ) → LevelForced st l → (u : Valuation) (m : Model) (w : ℕ) → w < length m.worlds → makes_all (at_world st l u m.worlds w) (st.entries l) ≡ true
all_made st l f u m w h = every_from _ (st.entries l) (λ e i. f e i u m w h)

-- and a core rules out every world of every model
pub cannot_exist : (st : State) (l : ℕ) (xs core : List Literal) → LevelForced st l → CoreOf st l xs core → CannotExist st l xs
cannot_exist st l xs core f k u m w h o = k.unsatisfiable (at_world st l u m.worlds w) (every_from _ core (λ x i. every_in _ (k.part x i) o)) (all_made st l f u m w h)

-- a level is forced if its learnt entries are
pub level_forced : (st : State) → Clausal st → (l : ℕ) → ((e : Entry) → In e (learnt (st.entries l)) → Forced st l e.clause) → LevelForced st l
level_forced st cl l f e i = elim (cases_Bool (is_learnt e)) [
  | inl q ↦ f e (in_kept is_learnt i q)
  | inr q ↦ (λ u m w h. definition_true st cl l u m.worlds w e (in_kept is_definition i (ap not q)))
]

-- the clause learnt from a part that has a core, over the entries as they are left
module _ (st : State) (es : ℕ → List Entry) (cl : Clausal (with_entries st es)) (l : ℕ) (v : Valuation) (d : ModalClause) (core : List Literal) (c : Clause) (t : LearntClause st l v d core c) where
  abbrev after : State
  after = with_entries st es

  pub learnt_forced : LevelForced after (suc l) → CoreOf after (suc l) (part_of st l v d) core → Forced after l c
  learnt_forced f k u m w h = elim (cases_Bool (makes (at_world after l u m.worlds w) c)) [ inl e ↦ e | inr e ↦ absurd (no e) ]
    where
      no : makes (at_world after l u m.worlds w) c ≡ false → ⊥
      no e =
          let denied : (n : ℕ) → In (negation n) (negation d.name ∷ negations t.boxes) → at_world after l u m.worlds w n ≡ true = λ n i. elim (cases_Bool (at_world after l u m.worlds w n)) [ inl q ↦ q | inr q ↦ absurd (both_ways _ e (clause_made (at_world after l u m.worlds w) t.is (negation n) i (ap not q))) ] in
          let (x, j, o) = diamond_true after cl l u m.worlds w d (kept_in _ (st.diamonds l) t.fires).0 (denied d.name here) u in
          k.unsatisfiable (at_world after (suc l) u m.worlds x) (every_from _ core (λ y i. elim (t.covers y i) [
            | inl q ↦ ap (obeys_one (at_world after (suc l) u m.worlds x)) q ∙ o
            | inr (b, bi, q) ↦ ap (obeys_one (at_world after (suc l) u m.worlds x)) (sym q) ∙ box_true after cl l u m.worlds w b (kept_in _ (st.boxes l) (t.fire b bi)).0 (denied b.name (there (in_negations bi))) u x j
          ]))
          (all_made after (suc l) f u m x (successor_inside m w x h j))

  -- a literal of the clause denies a name that the valuation has in
  literal_from : {y : Literal} → In y (negation d.name ∷ negations t.boxes) → (n : ℕ) × (y ≡ negation n) × (v n ≡ true) × ((n ≡ d.name) ⊎ ((b : ModalClause) × In b (st.boxes l) × (b.name ≡ n)))
  literal_from here = (d.name, refl, (kept_in _ (st.diamonds l) t.fires).1, inl refl)
  literal_from (there j) = let (b, bi, e) = negations_in t.boxes j in let (q, o) = kept_in _ (st.boxes l) (t.fire b bi) in (b.name, e, o, inr (b, q, refl))

  -- so it is false under the valuation that it was learnt under
  pub learnt_new : makes v c ≡ false
  learnt_new = elim (cases_Bool (makes v c)) [ inr e ↦ e | inl e ↦ (let (x, i, o) = clause_cases v t.is e in let (n, q, p, _) = literal_from i in absurd (both_ways _ (ap not p) (ap (obeys_one v) (sym q) ∙ o))) ]

  pub learnt_negates : NegatesNames after l c
  learnt_negates = record {
    diamond = d;
    from = (kept_in _ (st.diamonds l) t.fires).0;
    named = t.is.whole (negation d.name) here;
    others = λ a h e ne. (let (n, q, _, z) = literal_from (t.is.within (negation a) h e) in let p : a ≡ n = ap (λ (y : Literal). y.atom) q in elim z [ inl s ↦ absurd (ne (p ∙ s)) | inr (b, bi, s) ↦ (b, bi, s ∙ sym p) ]);
    no_plain = λ a h. elim (cases_Bool (has c.plain a)) [ inr e ↦ e | inl e ↦ (let (n, q, _, _) = literal_from (t.is.within (positive a) h e) in absurd (false≢true (sym (ap (λ (y : Literal). y.holds) q)))) ];
  }

module _ (st : State) (cl : Clausal st) where
  -- a handle reads as its rule
  handle_reads : (k : ℕ) → k < length st.rules → (u : Valuation) (ws : List World) (w : ℕ) → at_world st 0 u ws w (handle_of st k) ≡ meets (says (rule_at st k)) ws w
  handle_reads k h u ws w = let (i, _, e, q) = handle_at st k (cl.naming.handled k h) in ap (at_world st 0 u ws w) e ∙ reading_name st 0 i u ws w ∙ ap (reads_name st (u _) ws w) q

  -- a core of the handles is a core of the question
  pub core_closes : (asked core : List ℕ) → ((l : ℕ) (e : Entry) → In e (learnt (st.entries l)) → Forced st l e.clause) → ((k : ℕ) → In k core → In k asked) → ((k : ℕ) → In k asked → k < length st.rules) → ((v : Valuation) → obeys_all v (handles st core) ≡ true → makes_all v (st.entries 0) ≡ true → ⊥) → ClosedLaw st asked core
  core_closes asked core f part held shut = record {
    part = part;
    nowhere = λ m w h all. shut (at_world st 0 (λ _. false) m.worlds w) (every_from _ (handles st core) (λ x i. let (k, j, e) = handles_in st core i in ap (obeys_one (at_world st 0 (λ _. false) m.worlds w)) e ∙ handle_reads k (held k (part k j)) (λ _. false) m.worlds w ∙ all k j)) (all_made st 0 (level_forced st cl 0 (f 0)) (λ _. false) m w h);
    unsatisfiable = shut;
  }
