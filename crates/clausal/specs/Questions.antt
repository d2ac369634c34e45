-- What a question is about: the parts of fired diamonds, the worlds that are reached, cores, and the clauses that are learnt from them.
use Rattle.std.specs.Prelude.{◌≡◌, ℕ, suc, ◌<◌, ◌≤◌, true, ◌⊎◌, List, [], ◌∷◌, ◌++◌, length, take, ◌≢◌, slice_index_or}
use Rattle.lists.specs.Lists.{every, In}
use Rattle.modal.specs.Kripke.{Model}
use Rattle.atoms.specs.Clauses.{Valuation, makes_all, is_learnt, learnt, negation}
use Rattle.atoms.specs.declared.clauses.Clause.{Clause}
use Rattle.atoms.specs.declared.clauses.Entry.{Entry}
use Rattle.atoms.specs.declared.clauses.Literal.{Literal}
use Rattle.clausal.specs.Clausal.{ClauseOf}
use Rattle.clausal.specs.States.{State, at_world, obeys_all, fired, literals}
use Rattle.clausal.specs.declared.modal_clauses.ModalClause.{ModalClause}

-- the session with other entries
abbrev pub with_entries : State → (ℕ → List Entry) → State
with_entries st es = record { rules = st.rules; names = st.names; boxes = st.boxes; diamonds = st.diamonds; entries = es }

-- the literals that the part of a fired diamond is tried under: the diamond's own, and those of all fired boxes
abbrev pub part_of : State → ℕ → Valuation → ModalClause → List Literal
part_of st l v d = d.literal ∷ literals (fired v (st.boxes l))

-- no world of any model makes all the literals true, however free names are read
abbrev pub CannotExist : State → ℕ → List Literal → Type 0
CannotExist st l xs = (u : Valuation) (m : Model) (w : ℕ) → w < length m.worlds → obeys_all (at_world st l u m.worlds w) xs ≢ true

-- a valuation allowed to a world: it obeys the literals that the world is tried under and makes the level's entries true
pub record Allowed (st : State) (l : ℕ) (xs : List Literal) (v : Valuation) : Type 0 where
  pub obeyed : obeys_all v xs ≡ true
  pub made : makes_all v (st.entries l) ≡ true

-- the worlds that a question reaches, by level and literals: its first world, and the part of each diamond fired under a valuation allowed to a world it reaches
pub data WorldReached (st : State) (asked : List Literal) : ℕ → List Literal → Type 0 where
  first : WorldReached st asked 0 asked
  part : {l : ℕ} {xs : List Literal} → WorldReached st asked l xs → (v : Valuation) → Allowed st l xs v → (d : ModalClause) → In d (fired v (st.diamonds l)) → WorldReached st asked (suc l) (part_of st l v d)

-- a core: some of the literals, which no valuation obeys while it makes every entry of the level true
pub record CoreOf (st : State) (l : ℕ) (xs core : List Literal) : Type 0 where
  pub part : (x : Literal) → In x core → In x xs
  pub unsatisfiable : (v : Valuation) → obeys_all v core ≡ true → makes_all v (st.entries l) ≢ true

-- the negations of the names of box clauses
abbrev pub negations : List ModalClause → List Literal
negations [] = []
negations (b ∷ bs) = negation b.name ∷ negations bs

-- the clause learnt from a core of the part of a fired diamond d: not d's name, or, for each core literal that is not d's own, not the name of the lowest fired box that has it
pub record LearntClause (st : State) (l : ℕ) (v : Valuation) (d : ModalClause) (core : List Literal) (c : Clause) : Type 0 where
  pub fires : In d (fired v (st.diamonds l))
  -- the boxes whose names are in the clause: fired, each for a core literal, the lowest that has it, and one for each such literal
  pub boxes : List ModalClause
  pub fire : (b : ModalClause) → In b boxes → In b (fired v (st.boxes l))
  pub wanted : (b : ModalClause) → In b boxes → In b.literal core × (b.literal ≢ d.literal)
  pub lowest : (b a : ModalClause) → In b boxes → In a (fired v (st.boxes l)) → a.literal ≡ b.literal → b.name ≤ a.name
  pub covers : (x : Literal) → In x core → (x ≡ d.literal) ⊎ ((b : ModalClause) × In b boxes × (b.literal ≡ x))
  pub is : ClauseOf (negation d.name ∷ negations boxes) c

-- entry i of level l is a clause learnt at a world: its valuation made all earlier entries true, a diamond fired, and the diamond's part had the core that the clause is learnt from
pub record LearntFrom (st : State) (es : ℕ → List Entry) (l i : ℕ) (e : Entry) : Type 0 where
  pub valuation : Valuation
  pub earlier : makes_all valuation (take i (es l)) ≡ true
  pub diamond : ModalClause
  pub core : List Literal
  pub found : CoreOf (with_entries st es) (suc l) (part_of st l valuation diamond) core
  pub clause : LearntClause st l valuation diamond core e.clause

-- no level has more than 128 learnt entries
abbrev pub FewLearnt : (ℕ → List Entry) → Type 0
FewLearnt es = (l : ℕ) → length (learnt (es l)) ≤ 128

-- entries are only appended, each is marked as learnt, and each was learnt from a core
pub record Learns (st : State) (es : ℕ → List Entry) : Type 0 where
  pub grown : (l : ℕ) → (new : List Entry) × (es l ≡ st.entries l ++ new) × (every is_learnt new ≡ true)
  pub each : (l i : ℕ) (e : Entry) → length (st.entries l) ≤ i → i < length (es l) → slice_index_or (es l) i e ≡ e → LearntFrom st es l i e
