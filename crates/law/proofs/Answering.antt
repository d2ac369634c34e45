-- The three answers to a question, from what one question finds.
use Rattle.std.proofs.Common.{◌≡◌, ℕ, suc, ◌<◌, ◌≤◌, true, List, ◌∷◌, length, refl, ap, ◌∙◌, arith}
use Rattle.lists.specs.Lists.{In}
use Rattle.lists.proofs.Members.{every_in}
use Rattle.modal.specs.Kripke.{meets}
use Rattle.modal.specs.Rows.{says}
use Rattle.atoms.specs.Clauses.{Valuation, obeys_one, makes_all, learnt, definitions, positive}
use Rattle.atoms.specs.declared.clauses.Entry.{Entry}
use Rattle.atoms.specs.declared.clauses.Literal.{Literal}
use Rattle.clausal.specs.Questions.{with_entries, part_of, Allowed, WorldReached, CoreOf, Learns}
use Rattle.clausal.specs.States.{State, rule_at, handle_of, obeys_all, fired, literals}
use Rattle.clausal.specs.Trees.{Tree, node, Forest, none, more, root, Complete, CompleteAll, size, worlds}
use Rattle.clausal.specs.declared.modal_clauses.ModalClause.{ModalClause}
use Rattle.clausal.proofs.Truth.{root_meets}
use Rattle.law.specs.Verdicts.{handles, OpenLaw, ClosedLaw, FullLaw, Sound}
use Rattle.law.proofs.Keeping.{same_definitions, learn_sound}
use Rattle.law.proofs.Learning.{cannot_exist, level_forced, core_closes, in_handles}

-- learning leaves complete trees complete
module _ (st : State) (es : ℕ → List Entry) (h : (l : ℕ) → definitions (es l) ≡ definitions (st.entries l)) where
  mutual
    complete_kept : (t : Tree) (l : ℕ) (xs : List Literal) → Complete st l xs t → Complete (with_entries st es) l xs t
    complete_kept (node v ts) l xs (o, m, c) = (o, ap (makes_all v) (h l) ∙ m, complete_all_kept ts (suc l) (literals (fired v (st.boxes l))) (fired v (st.diamonds l)) c)

    complete_all_kept : (ts : Forest) (l : ℕ) (bs : List Literal) (ds : List ModalClause) → CompleteAll st l bs ds ts → CompleteAll (with_entries st es) l bs ds ts
    complete_all_kept none l bs ds c = c
    complete_all_kept (more t ts) l bs ds (d, rest, e, c, cs) = (d, rest, e, complete_kept t l (d.literal ∷ bs) c, complete_all_kept ts l bs rest cs)

root_obeys : (st : State) (l : ℕ) (xs : List Literal) (t : Tree) → Complete st l xs t → (x : Literal) → In x xs → obeys_one (root t) x ≡ true
root_obeys st l xs (node v ts) c x i = every_in (obeys_one v) i c.0

module _ (st : State) (s : Sound st) (es : ℕ → List Entry) (n : Learns st es) (few : (l : ℕ) → length (learnt (es l)) ≤ 128) (asked : List ℕ) (held : (k : ℕ) → In k asked → k < length st.rules) where
  abbrev after : State
  after = with_entries st es

  now : Sound after
  now = learn_sound st es n s few

  -- a tree that was complete is still, and its root meets the rules asked
  pub still_complete : (t : Tree) → Complete st 0 (handles st asked) t → Complete after 0 (handles after asked) t
  still_complete t c = complete_kept st es (same_definitions st es n) t 0 (handles after asked) c

  pub complete_meets : (t : Tree) → Complete after 0 (handles after asked) t → (k : ℕ) → In k asked → meets (says (rule_at after k)) (worlds 0 t) 0 ≡ true
  complete_meets t whole k i = (root_meets after now.clausal 0 (handles after asked) t whole).handles k (held k i) refl (root_obeys after 0 (handles after asked) t whole (positive (handle_of after k)) (in_handles after i))

  pub answer_open : (t : Tree) → Complete st 0 (handles st asked) t → (count : ℕ) → size t ≡ count → OpenLaw after asked count
  answer_open t c count e = let whole = still_complete t c in record { tree = t; whole = whole; counted = e; meeting = complete_meets t whole }

  pub answer_closed : (core : List ℕ) → ((k : ℕ) → In k core → In k asked) → ((v : Valuation) → obeys_all v (handles after core) ≡ true → makes_all v (es 0) ≡ true → ⊥) → ClosedLaw after asked core
  answer_closed core part none-obeys = core_closes after now.clausal asked core now.forced part held none-obeys

  pub answer_full : (l : ℕ) (xs core : List Literal) (v : Valuation) (d : ModalClause) → 128 ≤ length (learnt (es l)) → WorldReached after (handles st asked) l xs → Allowed after l xs v → In d (fired v (st.diamonds l)) → CoreOf after (suc l) (part_of st l v d) core → FullLaw after asked l
  answer_full l xs core v d many reached allowed fires k = record {
    many = let h = few l in omega arith;
    negates = now.negates l;
    needed = now.needed l;
    literals = xs;
    reached = reached;
    valuation = v;
    allowed = allowed;
    diamond = d;
    fires = fires;
    impossible = cannot_exist after (suc l) (part_of st l v d) core (level_forced after now.clausal (suc l) (now.forced (suc l))) k;
  }
