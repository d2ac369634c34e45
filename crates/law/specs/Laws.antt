-- The theorems on lists of calls and on the answers to a question.
use Rattle.std.specs.Prelude.{◌≡◌, ℕ, suc, ◌<◌, ◌≤◌, true, List, length, ◌≢◌}
use Rattle.lists.specs.Lists.{In}
use Rattle.atoms.specs.Clauses.{Valuation, makes_all, learnt}
use Rattle.atoms.specs.declared.clauses.Entry.{Entry}
use Rattle.atoms.specs.declared.clauses.Literal.{Literal}
use Rattle.clausal.specs.Questions.{with_entries, part_of, Allowed, WorldReached, CoreOf, Learns, FewLearnt}
use Rattle.clausal.specs.States.{State, obeys_all, fired}
use Rattle.clausal.specs.Trees.{Tree, Complete, size}
use Rattle.clausal.specs.declared.modal_clauses.ModalClause.{ModalClause}
use Rattle.law.specs.Runs.{History, LeadsTo, NeverContradicted}
use Rattle.law.specs.Verdicts.{handles, OpenLaw, ClosedLaw, FullLaw, Sound}

-- whatever the calls were, and whatever was refused, the session they leave is sound
abbrev pub SessionsSound : Type 0
SessionsSound = (h : History) (st : State) → LeadsTo h st → Sound st

-- the same calls over two oracles never get replies that contradict each other
abbrev pub RepliesAgree : Type 0
RepliesAgree = (h : History) (st : State) → LeadsTo h st → NeverContradicted h

-- a question about rules that are held, on a sound session, with the entries that it leaves
pub record SoundQuestion (st : State) (asked : List ℕ) (es : ℕ → List Entry) : Type 0 where
  pub sound : Sound st
  pub held : (k : ℕ) → In k asked → k < length st.rules
  pub learns : Learns st es
  pub few : FewLearnt es

-- a complete tree under the handles asked is an open answer
abbrev pub OpenFromTree : Type 0
OpenFromTree = (st : State) (asked : List ℕ) (es : ℕ → List Entry) → SoundQuestion st asked es → (t : Tree) → Complete st 0 (handles st asked) t → OpenLaw (with_entries st es) asked (size t)

-- a part of the question whose handles no valuation obeys while it makes all entries of level 0 true
pub record HandleCore (st : State) (asked core : List ℕ) : Type 0 where
  pub inside : (k : ℕ) → In k core → In k asked
  pub unsatisfiable : (v : Valuation) → obeys_all v (handles st core) ≡ true → makes_all v (st.entries 0) ≢ true

-- such a part is a closed answer
abbrev pub ClosedFromCore : Type 0
ClosedFromCore = (st : State) (asked : List ℕ) (es : ℕ → List Entry) → SoundQuestion st asked es → (core : List ℕ) → HandleCore (with_entries st es) asked core → ClosedLaw (with_entries st es) asked core

-- a full level, and a world reached there that is allowed a valuation with a fired diamond whose part has a core
pub record FullLevel (st : State) (asked : List ℕ) (l : ℕ) : Type 0 where
  pub many : 128 ≤ length (learnt (st.entries l))
  pub literals : List Literal
  pub reached : WorldReached st (handles st asked) l literals
  pub valuation : Valuation
  pub allowed : Allowed st l literals valuation
  pub diamond : ModalClause
  pub fires : In diamond (fired valuation (st.diamonds l))
  pub core : List Literal
  pub found : CoreOf st (suc l) (part_of st l valuation diamond) core

-- such a level is the refusal
abbrev pub FullFromPart : Type 0
FullFromPart = (st : State) (asked : List ℕ) (es : ℕ → List Entry) → SoundQuestion st asked es → (l : ℕ) → FullLevel (with_entries st es) asked l → FullLaw (with_entries st es) asked l
