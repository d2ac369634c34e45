-- For proofs alone: what a question assumes of the rules that it asks, the numbers below n, and which of them a core keeps.
use Rattle.std.specs.Prelude.{◌≡◌, ℕ, ◌<◌, ◌≤◌, true, [], length}
use Rattle.atoms.specs.Assuming.{assumes}
use Rattle.atoms.specs.Bits.{bit}
use Rattle.atoms.specs.Sets.{has}
use Rattle.atoms.specs.declared.assumptions.Assumptions.{Assumptions}
use Rattle.atoms.specs.declared.clauses.Literal.{Literal}
use Rattle.clausal.specs.States.{handle_of}
use Rattle.naming.specs.Tables.{rules_in, view_of}
use Rattle.naming.specs.declared.table.Table.{Table}
use Rattle.session.specs.declared.faults.QuestionFault.{QuestionFault}
use Rattle.session.specs.declared.faults.QuestionFault.TheVariants.{UnknownRule}

-- the handle of a rule of the table
abbrev pub handle_in : Table → ℕ → ℕ
handle_in t k = handle_of (view_of t (λ _. [])) k

-- rule k is asked and held
pub record AskedHeld (t : Table) (q k : ℕ) : Type 0 where
  pub asked : bit q k ≡ true
  pub held : k < length (rules_in t)
  pub small : handle_in t k < 64

-- the rules asked are held, and just their handles are assumed, in
pub record Assumes (t : Table) (q n : ℕ) (under : Assumptions) : Type 0 where
  pub held : (k : ℕ) → k < n → bit q k ≡ true → AskedHeld t q k
  pub each : (k : ℕ) → k < n → bit q k ≡ true → has under.within (handle_in t k) ≡ true
  pub only : (x : Literal) → assumes under x ≡ true → (k : ℕ) × (k < n) × (bit q k ≡ true) × (x ≡ record { atom = handle_in t k; holds = true })

-- the lowest number asked that is no rule's
pub record LowestUnknown (t : Table) (q k : ℕ) : Type 0 where
  pub asked : bit q k ≡ true
  pub small : k < 16
  pub beyond : length (rules_in t) ≤ k
  pub lowest : (j : ℕ) → j < k → bit q j ≡ true → j < length (rules_in t)

-- the fault that names it
pub record NamesUnknown (t : Table) (q : ℕ) (fault : QuestionFault) : Type 0 where
  pub number : ℕ
  pub is : fault ≡ UnknownRule number
  pub unknown : LowestUnknown t q number

-- of the rules asked and held, just those whose handles are in the core
pub record KeepsIn (t : Table) (q : ℕ) (core : Assumptions) (n kept : ℕ) : Type 0 where
  pub part : (k : ℕ) → bit kept k ≡ true → (k < n) × (bit q k ≡ true)
  pub whole : (k : ℕ) → k < n → AskedHeld t q k → has core.within (handle_in t k) ≡ true → bit kept k ≡ true
