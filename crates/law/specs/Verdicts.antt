-- What open, closed and full say of a session.
use Rattle.std.specs.Prelude.{◌≡◌, ℕ, suc, ◌<◌, true, false, List, length, take, ◌≢◌, slice_index_or, map}
use Rattle.lists.specs.Lists.{In}
use Rattle.modal.specs.Kripke.{Model, meets}
use Rattle.modal.specs.Rows.{says}
use Rattle.atoms.specs.Clauses.{Valuation, makes, makes_all, is_learnt, learnt, positive}
use Rattle.atoms.specs.Sets.{has}
use Rattle.atoms.specs.declared.clauses.Clause.{Clause}
use Rattle.atoms.specs.declared.clauses.Entry.{Entry}
use Rattle.atoms.specs.declared.clauses.Literal.{Literal}
use Rattle.clausal.specs.Clausal.{Clausal}
use Rattle.clausal.specs.Questions.{part_of, CannotExist, Allowed, WorldReached, FewLearnt}
use Rattle.clausal.specs.States.{State, rule_at, handle_of, obeys_all, fired, Forced}
use Rattle.clausal.specs.Trees.{Tree, Complete, size, worlds}
use Rattle.clausal.specs.declared.modal_clauses.ModalClause.{ModalClause}

-- the literals that the handles of the rules asked are in
abbrev pub handles : State → List ℕ → List Literal
handles st asked = map (λ k. positive (handle_of st k)) asked

-- Open: some complete tree of exactly that many worlds meets every rule asked at its root.
pub record OpenLaw (st : State) (asked : List ℕ) (count : ℕ) : Type 0 where
  pub tree : Tree
  pub whole : Complete st 0 (handles st asked) tree
  pub counted : size tree ≡ count
  pub meeting : (k : ℕ) → In k asked → meets (says (rule_at st k)) (worlds 0 tree) 0 ≡ true

-- Closed: a part of the question. No world of any Kripke model meets all its rules, and no valuation with their handles in makes true all entries of level 0.
pub record ClosedLaw (st : State) (asked core : List ℕ) : Type 0 where
  pub part : (k : ℕ) → In k core → In k asked
  pub nowhere : (m : Model) (w : ℕ) → w < length m.worlds → ((k : ℕ) → In k core → meets (says (rule_at st k)) m.worlds w ≡ true) → ⊥
  pub unsatisfiable : (v : Valuation) → obeys_all v (handles st core) ≡ true → makes_all v (st.entries 0) ≢ true

-- the clause is made of negations of names of the level: of one diamond's, and perhaps of boxes'
pub record NegatesNames (st : State) (l : ℕ) (c : Clause) : Type 0 where
  pub diamond : ModalClause
  pub from : In diamond (st.diamonds l)
  pub named : has c.negated diamond.name ≡ true
  pub others : (a : ℕ) → a < 64 → has c.negated a ≡ true → (a ≢ diamond.name) → (b : ModalClause) × In b (st.boxes l) × (b.name ≡ a)
  pub no_plain : (a : ℕ) → a < 64 → has c.plain a ≡ false

-- each learnt entry of the list is false under some valuation that makes all entries before it true
abbrev pub LearntNeeded : List Entry → Type 0
LearntNeeded es = (i : ℕ) (e : Entry) → i < length es → slice_index_or es i e ≡ e → is_learnt e ≡ true → (v : Valuation) × (makes_all v (take i es) ≡ true) × (makes v e.clause ≡ false)

-- Full: the level holds 128 learnt clauses, each made of negated names and needed when it was learnt; and a world that the question reaches there is still allowed a valuation that fires a diamond whose part cannot exist.
pub record FullLaw (st : State) (asked : List ℕ) (l : ℕ) : Type 0 where
  pub many : length (learnt (st.entries l)) ≡ 128
  pub negates : (e : Entry) → In e (learnt (st.entries l)) → NegatesNames st l e.clause
  pub needed : LearntNeeded (st.entries l)
  pub literals : List Literal
  pub reached : WorldReached st (handles st asked) l literals
  pub valuation : Valuation
  pub allowed : Allowed st l literals valuation
  pub diamond : ModalClause
  pub fires : In diamond (fired valuation (st.diamonds l))
  pub impossible : CannotExist st (suc l) (part_of st l valuation diamond)

-- what holds of every session that calls can leave: its clauses are those of its rules, and what was learnt is forced by the rules, made of negated names, needed, and at most 128 at a level
pub record Sound (st : State) : Type 0 where
  pub clausal : Clausal st
  pub forced : (l : ℕ) (e : Entry) → In e (learnt (st.entries l)) → Forced st l e.clause
  pub negates : (l : ℕ) (e : Entry) → In e (learnt (st.entries l)) → NegatesNames st l e.clause
  pub needed : (l : ℕ) → LearntNeeded (st.entries l)
  pub few : FewLearnt st.entries
