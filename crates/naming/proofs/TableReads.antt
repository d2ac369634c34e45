-- What is read of a table: how many box and diamond clauses a level has and that they are orderly, and a rule's handle.
use Rattle.naming.proofs.Contents.{named_naming, names_few}
use Rattle.naming.proofs.Gathers.{gather_few}
use Rattle.std.proofs.Common.{◌≡◌, ℕ, suc, ◌+◌, ◌<◌, ◌≤◌, Bool, true, false, List, length, Some, None, Option, MatchOption, get_or, position, cond, sym, refl, ap, ◌∙◌, subst, inl, inr, arith}
use Rattle.std.specs.Option.{option_map}
use Rattle.std.proofs.lemmas.Bool.{eq-eqb, cases_lt, both_ways}
use Rattle.lists.specs.Lists.{some, first_at}
use Rattle.lists.proofs.Firsts.{first_passes}
use Rattle.lists.proofs.Members.{some_from}
use Rattle.fixed_list.specs.Items.{items_of}
use Rattle.clausal.specs.Clausal.{shape, row_at, modal_name, modals_at, boxed, diamonded, Orderly, Proper, Naming}
use Rattle.clausal.specs.Places.{lit}
use Rattle.clausal.specs.States.{State, is_handle_of}
use Rattle.clausal.specs.declared.modal_clauses.ModalClause.{ModalClause}
use Rattle.clausal.specs.declared.names.Name.{Name}
use Rattle.clausal.specs.declared.names.Name.TheVariants.{Free as free, Place as place, Handle as handle}
use Rattle.clausal.specs.declared.shapes.Shape.{Shape}
use Rattle.clausal.proofs.Modals.{boxed_one, diamonded_one, modals_length, boxes_orderly, diamonds_orderly}
use Rattle.clausal.proofs.Reading.{handle_known}
use Rattle.naming.specs.Levels.{LevelLists, lists_at, names_at, boxes_at, diamonds_at, held_rules, named_state}
use Rattle.naming.specs.Tables.{rules_in, HasHandle}
use Rattle.naming.proofs.AtLevel.{level_read}
use Rattle.naming.proofs.Lookups.{position_first}
use Rattle.naming.specs.declared.level_table.LevelTable.{LevelTable}
use Rattle.naming.specs.declared.table.Table.{Table}

modals_few : (under : Shape → List ℕ) → ((z : Shape) → length (under z) ≤ 1) → (st : State) (l : ℕ) → length (modals_at under st l) ≤ length (st.names l)
modals_few under u st l = gather_few (modal_name under st l) one 16 (st.names l)
  where
    one : (n : ℕ) (x : Name) → length (modal_name under st l n x) ≤ 1
    one n free = omega arith
    one n (handle q) = omega arith
    one n (place q k s) = let a = modals_length n (lit st q (suc l) s) (under (shape (row_at st q k) s)) in let b = u (shape (row_at st q k) s) in omega arith

module _ (t : Table) where
  -- a table's rules and names alone
  abbrev named_alone : State
  named_alone = named_state (held_rules t.rules) (names_at t.levels)

  naming_alone : Naming named_alone
  naming_alone = named_naming t.rules t.levels t.rules_lawful t.named

  pub boxes_few : (l : ℕ) → length (boxes_at t.levels l) ≤ length (names_at t.levels l)
  boxes_few l = subst (λ (xs : List ModalClause). length xs ≤ length (names_at t.levels l)) (sym (t.boxes_given l)) (modals_few boxed boxed_one named_alone l)

  pub diamonds_few : (l : ℕ) → length (diamonds_at t.levels l) ≤ length (names_at t.levels l)
  diamonds_few l = subst (λ (xs : List ModalClause). length xs ≤ length (names_at t.levels l)) (sym (t.diamonds_given l)) (modals_few diamonded diamonded_one named_alone l)

  -- the box or diamond clauses of a level, as the code reads them
  pub boxes_read : (l i : ℕ) (d : LevelTable) (ms : List ModalClause) → ms ≡ items_of (get_or t.levels i d).boxes → i ≡ l → i < length t.levels → Orderly l ms
  boxes_read l i d ms e z h = subst (Orderly l) (sym (e ∙ ap (λ (s : LevelLists). s.boxes) (sym (level_read t.levels i d h) ∙ ap (lists_at t.levels) z) ∙ t.boxes_given l)) (boxes_orderly named_alone naming_alone l)

  pub diamonds_read : (l i : ℕ) (d : LevelTable) (ms : List ModalClause) → ms ≡ items_of (get_or t.levels i d).diamonds → i ≡ l → i < length t.levels → Orderly l ms
  diamonds_read l i d ms e z h = subst (Orderly l) (sym (e ∙ ap (λ (s : LevelLists). s.diamonds) (sym (level_read t.levels i d h) ∙ ap (lists_at t.levels) z) ∙ t.diamonds_given l)) (diamonds_orderly named_alone naming_alone l)

  -- the handle of a rule, by a look at the names of level 0
  pub handle_known_at : (k : ℕ) → MatchOption (option_map (λ i. 16 + i) (position (is_handle_of k) (names_at t.levels 0))) (length (rules_in t) ≤ k) (λ a. HasHandle t k a)
  handle_known_at k = rw (position_first (is_handle_of k) (names_at t.levels 0)) (go (some (is_handle_of k) (names_at t.levels 0)) refl)
    where
      go : (b : Bool) → some (is_handle_of k) (names_at t.levels 0) ≡ b → MatchOption (option_map (λ i. 16 + i) (cond b (Some (first_at (is_handle_of k) (names_at t.levels 0))) None)) (length (rules_in t) ≤ k) (λ a. HasHandle t k a)
      go true e =
          let (p, h) = first_passes (is_handle_of k) free (names_at t.levels 0) e in
          let few = names_few t.levels 0 in
          record { held = (subst (Proper named_alone 0) (handle_known k _ p) (naming_alone.proper 0 (first_at (is_handle_of k) (names_at t.levels 0)))).0; is = refl; small = omega arith }
      go false e = elim (cases_lt k (length (held_rules t.rules))) [
        | inl h ↦ absurd (both_ways _ e (some_from (is_handle_of k) (naming_alone.handled k h) (eq-eqb k k refl)))
        | inr h ↦ h
      ]

-- what a look at the names of level 0, read from the levels, says of the handle
pub handle_found : (t : Table) (k i : ℕ) (d : LevelTable) (o : Option ℕ) → o ≡ option_map (λ j. 16 + j) (position (is_handle_of k) (items_of (get_or t.levels i d).names)) → i ≡ 0 → i < length t.levels → MatchOption o (length (rules_in t) ≤ k) (λ a. HasHandle t k a)
handle_found t k i d o e z h =
    subst (λ (r : Option ℕ). MatchOption r (length (rules_in t) ≤ k) (λ a. HasHandle t k a)) (sym (e ∙ ap (λ (s : LevelLists). option_map (λ j. 16 + j) (position (is_handle_of k) s.names)) (sym (level_read t.levels i d h) ∙ ap (lists_at t.levels) z))) (handle_known_at t k)
