-- What a table holds is the clausal form of its rules, and stays it when a rule is added.
use Rattle.naming.proofs.Gathers.{gather_in_same}
use Rattle.std.proofs.Common.{◌≡◌, ℕ, zero, suc, ◌<◌, ◌≤◌, true, ltb, List, [], ◌∷◌, ◌++◌, map, length, cond, sym, refl, ap, ◌∙◌, subst, ap₂, zero-add, arith}
use Rattle.std.proofs.lemmas.List.{length-map, map-append}
use Rattle.std.proofs.lemmas.Bool.{and_from}
use Rattle.lists.specs.Lists.{every}
use Rattle.lists.proofs.Members.{every_append}
use Rattle.modal.specs.Rows.{lawful}
use Rattle.modal.specs.Rules.{listed}
use Rattle.modal.specs.declared.row.Row.{Row}
use Rattle.modal.specs.declared.row_list.RowList.{RowList}
use Rattle.atoms.specs.declared.clauses.Clause.{Clause}
use Rattle.atoms.specs.declared.clauses.Entry.{Entry}
use Rattle.fixed_list.specs.Items.{items_of}
use Rattle.fixed_list.specs.declared.ArrayVec.{ArrayVec}
use Rattle.fixed_list.proofs.Counted.{length_items, pushed as push_kept}
use Rattle.clausal.specs.Adding.{Adds}
use Rattle.clausal.specs.Clausal.{modal_name, modals_at, boxed, diamonded, Naming}
use Rattle.clausal.specs.States.{State}
use Rattle.clausal.specs.declared.names.Name.{Name}
use Rattle.clausal.specs.declared.names.Name.TheVariants.{Free as free, Place as place, Handle as handle}
use Rattle.clausal.specs.declared.shapes.Shape.{Shape}
use Rattle.naming.specs.Levels.{lists_at, names_at, boxes_at, diamonds_at, held_rules, named_state}
use Rattle.naming.specs.Names.{names_for, names_from}
use Rattle.naming.specs.TakenIn.{TakenIn}
use Rattle.naming.specs.Tables.{definition}
use Rattle.naming.proofs.Adding.{adds}
use Rattle.naming.proofs.Named.{names_from_push, in_order_naming}
use Rattle.naming.specs.declared.level_table.LevelTable.{LevelTable}
use Rattle.naming.specs.declared.table.Table.{Table}

-- the session of a table's parts and the entries of an oracle
abbrev pub parts_view : ArrayVec RowList 16 → List LevelTable → (ℕ → List Entry) → State
parts_view rs ts es = record { rules = held_rules rs; names = names_at ts; boxes = boxes_at ts; diamonds = diamonds_at ts; entries = es }

items_few : {T : Type 0} {N : ℕ} (v : ArrayVec T N) → length (items_of v) ≤ N
items_few v = omega (arith, length_items v)

pub names_few : (ts : List LevelTable) (l : ℕ) → length (names_at ts l) ≤ 48
names_few [] l = omega arith
names_few (t ∷ ts) zero = items_few t.names
names_few (t ∷ ts) (suc l) = names_few ts l

rules_few : (rs : ArrayVec RowList 16) → length (held_rules rs) ≤ 16
rules_few rs = omega (arith, length-map (items_of rs) listed, items_few rs)

-- box and diamond clauses rest on rules and names alone
modals_rest : (under : Shape → List ℕ) (rs : ArrayVec RowList 16) (ts : List LevelTable) (es : ℕ → List Entry) (l : ℕ) → modals_at under (parts_view rs ts es) l ≡ modals_at under (named_state (held_rules rs) (names_at ts)) l
modals_rest under rs ts es l = gather_in_same _ _ 16 (names_at ts l) (λ n x _. go n x)
  where
    go : (n : ℕ) (x : Name) → modal_name under (parts_view rs ts es) l n x ≡ modal_name under (named_state (held_rules rs) (names_at ts)) l n x
    go n free = refl
    go n (place r k s) = refl
    go n (handle r) = refl

-- a table's parts
module _ (rs : ArrayVec RowList 16) (ts : List LevelTable) (ok : every lawful (held_rules rs) ≡ true) (named : (l : ℕ) → names_at ts l ≡ names_from 0 (held_rules rs) l) where
  pub parts_naming : (es : ℕ → List Entry) → Naming (parts_view rs ts es)
  parts_naming es = in_order_naming (parts_view rs ts es) (rules_few rs) ok (names_few ts) named

  pub named_naming : Naming (named_state (held_rules rs) (names_at ts))
  named_naming = in_order_naming (named_state (held_rules rs) (names_at ts)) (rules_few rs) ok (names_few ts) named

-- a rule is pushed, and taken in at every level
pub record AddedTo (t : Table) (rows : List Row) (rs' : ArrayVec RowList 16) (ts' : List LevelTable) (given : ℕ → List Clause) : Type 0 where
  pub good : lawful rows ≡ true
  pub pushed : held_rules rs' ≡ held_rules t.rules ++ rows ∷ []
  pub taken : TakenIn (length (held_rules t.rules)) rows (lists_at t.levels) (lists_at ts') given

pub rules_length : (rs : ArrayVec RowList 16) → length (held_rules rs) ≡ length (items_of rs)
rules_length rs = length-map (items_of rs) listed

pub added_to : (t : Table) (rows : List Row) (rs' : ArrayVec RowList 16) (ts' : List LevelTable) (given : ℕ → List Clause) (x : RowList) (n : ℕ)
    → lawful rows ≡ true → length (items_of t.rules) < 16 → items_of rs' ≡ cond (ltb (length (items_of t.rules)) 16) (items_of t.rules ++ x ∷ []) (items_of t.rules) → listed x ≡ rows → n ≡ length (items_of t.rules)
    → TakenIn n rows (lists_at t.levels) (lists_at ts') given → AddedTo t rows rs' ts' given
added_to t rows rs' ts' given x n good few e q k g = record {
  good = good;
  pushed = ap (map listed) (push_kept _ _ x 16 few e) ∙ map-append listed (items_of t.rules) (x ∷ []) ∙ ap (λ z. held_rules t.rules ++ z ∷ []) q;
  taken = subst (λ m. TakenIn m rows (lists_at t.levels) (lists_at ts') given) (k ∙ sym (rules_length t.rules)) g;
}

module _ {t : Table} {rows : List Row} {rs' : ArrayVec RowList 16} {ts' : List LevelTable} {given : ℕ → List Clause} (a : AddedTo t rows rs' ts' given) where
  pub lawful_then : every lawful (held_rules rs') ≡ true
  lawful_then = subst (λ (zs : List (List Row)). every lawful zs ≡ true) (sym a.pushed) (every_append lawful (held_rules t.rules) (rows ∷ []) t.rules_lawful (and_from (lawful rows) true a.good refl))

  pub named_then : (l : ℕ) → names_at ts' l ≡ names_from 0 (held_rules rs') l
  named_then l = (a.taken l).names ∙ ap₂ (λ (xs : List Name) (k : ℕ). xs ++ names_for k rows l) (t.named l) (sym (zero-add (length (held_rules t.rules)))) ∙ sym (ap (λ (zs : List (List Row)). names_from 0 zs l) a.pushed ∙ names_from_push 0 (held_rules t.rules) rows l)

  pub adds_then : (es : ℕ → List Entry) → Adds (parts_view t.rules t.levels es) rows (parts_view rs' ts' (λ l. es l ++ map definition (given l)))
  adds_then es = adds (parts_view t.rules t.levels es) rows (parts_view rs' ts' (λ l. es l ++ map definition (given l))) given (parts_naming t.rules t.levels t.rules_lawful t.named es) (parts_naming rs' ts' lawful_then named_then (λ l. es l ++ map definition (given l))) a.pushed a.taken (λ l. refl)
      (λ l. t.boxes_given l ∙ sym (modals_rest boxed t.rules t.levels es l)) (λ l. t.diamonds_given l ∙ sym (modals_rest diamonded t.rules t.levels es l))

  pub boxes_then : (l : ℕ) → boxes_at ts' l ≡ modals_at boxed (named_state (held_rules rs') (names_at ts')) l
  boxes_then l = (adds_then (λ _. [])).boxes l ∙ modals_rest boxed rs' ts' (λ m. map definition (given m)) l

  pub diamonds_then : (l : ℕ) → diamonds_at ts' l ≡ modals_at diamonded (named_state (held_rules rs') (names_at ts')) l
  diamonds_then l = (adds_then (λ _. [])).diamonds l ∙ modals_rest diamonded rs' ts' (λ m. map definition (given m)) l
