-- What a session holds, in the words of the logic: its rules, what each name stands for, and its clauses level by level; and how a world of a Kripke model reads them.
use Rattle.std.specs.Prelude.{◌≡◌, ℕ, ◌+◌, ◌-◌, ◌<◌, Bool, true, false, cond, List, [], ◌∷◌, length, filter, ◌==◌, nat_lt, slice_index_or}
use Rattle.lists.specs.Lists.{every, first_at}
use Rattle.modal.specs.Kripke.{Formula, neg, World, world, Model, meets}
use Rattle.modal.specs.Rows.{formula_at, forms, says}
use Rattle.modal.specs.declared.row.Row.{Row}
use Rattle.atoms.specs.Clauses.{Valuation, obeys_one, makes}
use Rattle.atoms.specs.declared.clauses.Clause.{Clause}
use Rattle.atoms.specs.declared.clauses.Entry.{Entry}
use Rattle.atoms.specs.declared.clauses.Literal.{Literal}
use Rattle.clausal.specs.declared.modal_clauses.ModalClause.{ModalClause}
use Rattle.clausal.specs.declared.names.Name.{Name}
use Rattle.clausal.specs.declared.names.Name.TheVariants.{Free, Place, Handle}

pub record State : Type 0 where
  pub rules : List (List Row)
  -- by level, what the atoms 16, 17, .. stand for; an atom beyond the list is free
  pub names : ℕ → List Name
  pub boxes : ℕ → List ModalClause
  pub diamonds : ℕ → List ModalClause
  pub entries : ℕ → List Entry

abbrev pub rule_at : State → ℕ → List Row
rule_at st r = slice_index_or st.rules r []

-- what atom 16 + i of level l stands for
abbrev pub name_at : State → ℕ → ℕ → Name
name_at st l i = slice_index_or (st.names l) i Free

-- a formula with a sign: minus denies it
abbrev pub signed : Bool → Formula → Formula
signed true f = f
signed false f = neg f

-- how a world reads a name: as its row with its sign, or as its rule; a free name either way, as b says
abbrev pub reads_name : State → Bool → List World → ℕ → Name → Bool
reads_name st b ws w Free = b
reads_name st b ws w (Place r k s) = meets (signed s (formula_at (forms (rule_at st r)) k)) ws w
reads_name st b ws w (Handle r) = meets (says (rule_at st r)) ws w

-- how a world reads the atoms of a level: the letters as its own, atom 15 as true, the others as names, of which u says how the free ones are read
abbrev pub at_world : State → ℕ → Valuation → List World → ℕ → Valuation
at_world st l u ws w a = cond (nat_lt a 15) ((world ws w).letters a) (cond (a == 15) true (reads_name st (u a) ws w (name_at st l (a - 16))))

-- the rules force the clause: it is true at every world of every model, however free names are read
abbrev pub Forced : State → ℕ → Clause → Type 0
Forced st l c = (u : Valuation) (m : Model) (w : ℕ) → w < length m.worlds → makes (at_world st l u m.worlds w) c ≡ true

-- does the valuation obey every literal
abbrev pub obeys_all : Valuation → List Literal → Bool
obeys_all v = every (obeys_one v)

-- the box or diamond clauses whose name is in
abbrev pub fired : Valuation → List ModalClause → List ModalClause
fired v = filter (λ m. v m.name)

abbrev pub literals : List ModalClause → List Literal
literals [] = []
literals (m ∷ ms) = m.literal ∷ literals ms

abbrev pub is_handle_of : ℕ → Name → Bool
is_handle_of r Free = false
is_handle_of r (Place _ _ _) = false
is_handle_of r (Handle q) = r == q

-- the handle of a rule
abbrev pub handle_of : State → ℕ → ℕ
handle_of st r = 16 + first_at (is_handle_of r) (st.names 0)
