-- The worked examples of the definitions: one table of cases, and what each case says.
use Rattle.std.specs.Prelude.{◌≡◌, ℕ, ◌<◌, true, List, [], ◌∷◌, length, Ok, Err}
use Rattle.std.specs.List.{range_with_len}
use Rattle.lists.specs.Lists.{every}
use Rattle.modal.specs.Faults.{read_refusal, refusal}
use Rattle.modal.specs.Format.{parsed}
use Rattle.modal.specs.Kripke.{Model, meets}
use Rattle.modal.specs.Rows.{says}
use Rattle.modal.specs.declared.faults.ReadFault.{ReadFault}
use Rattle.modal.specs.declared.row.Row.{Row}
use Rattle.modal.specs.declared.row.Row.TheVariants.{False, True, Letter, Not, And, Or, Box, Diamond}
use Rattle.clausal.specs.Clausal.{Clausal}
use Rattle.clausal.specs.States.{State}
use Rattle.clausal.specs.Trees.{Tree, Complete, size}
use Rattle.law.specs.Verdicts.{handles, OpenLaw}

pub data Sample : Type 0 where
  -- the bytes say these rows
  reads : List ℕ → List Row → Sample
  -- the bytes are refused with a number and a detail
  refuses : List ℕ → ℕ → ℕ → Sample
  -- the rules, all asked together, are open with a number of worlds
  opens : List (List Row) → ℕ → Sample
  -- the rules, all asked together, are closed
  closes : List (List Row) → Sample

abbrev pub samples : List Sample
samples =
    -- no rules, and the question that asks none
    opens [] 1 ∷
    -- p, which is letter 0; q below is letter 1
    opens ((Letter 0 ∷ []) ∷ []) 1 ∷
    -- box false
    opens ((False ∷ Box 0 ∷ []) ∷ []) 1 ∷
    -- box false, and diamond true
    closes ((False ∷ Box 0 ∷ True ∷ Diamond 2 ∷ And 1 3 ∷ []) ∷ []) ∷
    -- diamond p, and diamond not p
    opens ((Letter 0 ∷ Diamond 0 ∷ Not 0 ∷ Diamond 2 ∷ And 1 3 ∷ []) ∷ []) 3 ∷
    -- box (not p or q), and box p, and diamond not q
    closes ((Letter 0 ∷ Letter 1 ∷ Not 0 ∷ Or 2 1 ∷ Box 3 ∷ Box 0 ∷ Not 1 ∷ Diamond 6 ∷ And 4 5 ∷ And 8 7 ∷ []) ∷ []) ∷
    -- a child that is not an earlier row
    refuses (7 ∷ 0 ∷ []) 5 0 ∷
    -- letter 14, the last one, and a letter 15
    reads (2 ∷ 14 ∷ []) (Letter 14 ∷ []) ∷
    refuses (2 ∷ 15 ∷ []) 6 0 ∷
    -- seven boxes on p, and eight
    reads (2 ∷ 0 ∷ 6 ∷ 0 ∷ 6 ∷ 1 ∷ 6 ∷ 2 ∷ 6 ∷ 3 ∷ 6 ∷ 4 ∷ 6 ∷ 5 ∷ 6 ∷ 6 ∷ []) (Letter 0 ∷ Box 0 ∷ Box 1 ∷ Box 2 ∷ Box 3 ∷ Box 4 ∷ Box 5 ∷ Box 6 ∷ []) ∷
    refuses (2 ∷ 0 ∷ 6 ∷ 0 ∷ 6 ∷ 1 ∷ 6 ∷ 2 ∷ 6 ∷ 3 ∷ 6 ∷ 4 ∷ 6 ∷ 5 ∷ 6 ∷ 6 ∷ 6 ∷ 7 ∷ []) 7 8 ∷
    []

-- the numbers of all the rules
abbrev pub numbers : List (List Row) → List ℕ
numbers rules = range_with_len 0 (length rules)

-- a world of a Kripke model that meets all the rules
pub record MetBy (rules : List (List Row)) : Type 0 where
  pub model : Model
  pub at : ℕ
  pub inside : at < length model.worlds
  pub meeting : every (λ rows. meets (says rows) model.worlds at) rules ≡ true

-- the session holds exactly these rules, in their clausal form
pub record HeldBy (rules : List (List Row)) (st : State) : Type 0 where
  pub clausal : Clausal st
  pub rules_held : st.rules ≡ rules

-- a session that holds exactly the rules
pub record HeldBySome (rules : List (List Row)) : Type 0 where
  pub session : State
  pub holds : HeldBy rules session

-- Open: some world meets all the rules; and in every session that holds exactly them there is a complete tree of so many worlds, and none of any other number.
pub record Open (rules : List (List Row)) (count : ℕ) : Type 0 where
  pub held : HeldBySome rules
  pub met : MetBy rules
  pub answer : (st : State) → HeldBy rules st → OpenLaw st (numbers rules) count
  pub exactly : (st : State) → HeldBy rules st → (t : Tree) → Complete st 0 (handles st (numbers rules)) t → size t ≡ count

-- Closed: no world of any Kripke model meets all the rules, and no session that holds exactly them has a complete tree.
pub record Closed (rules : List (List Row)) : Type 0 where
  pub held : HeldBySome rules
  pub nowhere : MetBy rules → ⊥
  pub no_tree : (st : State) → HeldBy rules st → (t : Tree) → Complete st 0 (handles st (numbers rules)) t → ⊥

-- what a case says
abbrev pub Holds : Sample → Type 0
Holds (reads bytes rows) = parsed bytes ≡ Ok rows
Holds (refuses bytes number detail) = (fault : ReadFault) × (parsed bytes ≡ Err fault) × (read_refusal fault ≡ refusal number detail)
Holds (opens rules count) = Open rules count
Holds (closes rules) = Closed rules
