use Rattle.std.proofs.Common.{◌≡◌, ℕ, ◌+◌, ◌*◌, ◌≤◌, List, ◌++◌, length, drop}
use Rattle.fixed_list.specs.Items.{items_of}
use Rattle.clausal.specs.Clausal.{gather, boxed, diamonded}
use Rattle.clausal.specs.declared.names.Name.{Name}
use Rattle.naming.specs.TakenIn.{clauses_of_name, modals_of_name}
use Rattle.naming.proofs.level_table.LevelTable.take_in.Given as goal

-- what is written, with what the names that were just taken give from the i-th on, is what was there with what all of them give
abbrev Whole : {A : Type 0} → (ℕ → Name → List A) → ℕ → List Name → ℕ → List A → List A → Type 0
Whole f from names i now before = now ++ gather f (16 + (from + i)) (drop i (drop from names)) ≡ before ++ gather f (16 + from) (drop from names)

abbrev pub invariant-loop-i : goal.invariant-loop-i
invariant-loop-i l = record {
  names : l.self.names ≡ l.initial.self.names;
  definitions : Whole (clauses_of_name (items_of l.initial.self.names) l.rule.number l.rule.rows.now) l.from (items_of l.initial.self.names) (length l.yielded) (items_of l.definitions) (items_of l.initial.definitions);
  boxes : Whole (modals_of_name boxed (items_of l.further) l.rule.number l.rule.rows.now) l.from (items_of l.initial.self.names) (length l.yielded) (items_of l.self.boxes) (items_of l.initial.self.boxes);
  diamonds : Whole (modals_of_name diamonded (items_of l.further) l.rule.number l.rule.rows.now) l.from (items_of l.initial.self.names) (length l.yielded) (items_of l.self.diamonds) (items_of l.initial.self.diamonds);
  few_definitions : length (items_of l.definitions) ≤ 2 * length l.yielded;
  few_boxes : length (items_of l.self.boxes) ≤ l.from + length l.yielded;
  few_diamonds : length (items_of l.self.diamonds) ≤ l.from + length l.yielded;
}
