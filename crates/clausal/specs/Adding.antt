-- A new session, and a session with one rule more.
use Rattle.std.specs.Prelude.{◌≡◌, ℕ, ◌≤◌, ◌⊎◌, List, [], ◌∷◌, ◌++◌, length}
use Rattle.lists.specs.Lists.{Matches}
use Rattle.modal.specs.declared.row.Row.{Row}
use Rattle.atoms.specs.Clauses.{learnt}
use Rattle.atoms.specs.declared.clauses.Entry.{Entry}
use Rattle.clausal.specs.Clausal.{boxed, diamonded, modals_at, defines_rule, EntryOf, first_clauses, Naming}
use Rattle.clausal.specs.States.{State, name_at}
use Rattle.clausal.specs.declared.names.Name.{Name}
use Rattle.clausal.specs.declared.names.Name.TheVariants.{Free as free, Place as place, Handle as handle}

-- a new session: no rules, every atom free, no box or diamond clauses, nothing learnt, and at each level the first definition alone
pub record Fresh (st : State) : Type 0 where
  pub rules : st.rules ≡ []
  pub room : (l : ℕ) → length (st.names l) ≤ 48
  pub names : (l i : ℕ) → name_at st l i ≡ free
  pub boxes : (l : ℕ) → st.boxes l ≡ []
  pub diamonds : (l : ℕ) → st.diamonds l ≡ []
  pub defined : (l : ℕ) → learnt (st.entries l) ≡ []
  pub entries : (l : ℕ) → Matches EntryOf (first_clauses l) (st.entries l)

-- what an atom stands for is nothing, or belongs to rule k
abbrev pub Own : ℕ → Name → Type 0
Own k free = Unit {0}
Own k (place r _ _) = r ≡ k
Own k (handle r) = r ≡ k

-- one rule more; every atom stands for what it stood for, or was free and now belongs to the new rule
pub record Extends (st : State) (rows : List Row) (after : State) : Type 0 where
  pub rules : after.rules ≡ st.rules ++ rows ∷ []
  pub slots : (l i : ℕ) → (name_at after l i ≡ name_at st l i) ⊎ ((name_at st l i ≡ free) × Own (length st.rules) (name_at after l i))

-- a rule is taken in: the names are then those of all rules, the box and diamond clauses what these give, and after the old entries stand exactly the rule's definitions
pub record Adds (st : State) (rows : List Row) (after : State) : Type 0 where
  pub extends : Extends st rows after
  pub naming : Naming after
  pub boxes : (l : ℕ) → after.boxes l ≡ modals_at boxed after l
  pub diamonds : (l : ℕ) → after.diamonds l ≡ modals_at diamonded after l
  pub entries : (l : ℕ) → (new : List Entry) × (after.entries l ≡ st.entries l ++ new) × (learnt new ≡ []) × Matches EntryOf (defines_rule after l (length st.rules)) new
