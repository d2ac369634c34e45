-- What adding a rule answers: that there are too many rules, the lowest level with too many names, or the rule's number.
use Rattle.std.proofs.lemmas.Grind.{common_steps}
use Rattle.std.proofs.lemmas.Bool.Decides.{nat_tests}
use Rattle.std.proofs.Common.{◌≡◌, ℕ, ◌+◌, ◌<◌, ◌≤◌, Bool, false, ltb, List, [], ◌∷◌, ◌++◌, length, Ok, Err, Some, None, sym, ap, ◌∙◌, subst, zero-add, arith, add-zero, add_assoc}
use mathlib.Core.Path.{fun_ext}
use Rattle.std.specs.List.{range_with_len, find}
use Rattle.std.proofs.lemmas.Bool.{cond-true, cond-false, le-leb, lt-leb, lt-ltb, le-ltb, ltb-false}
use Rattle.lists.specs.Lists.{first_at}
use Rattle.modal.specs.declared.row.Row.{Row}
use Rattle.clausal.specs.Counting.{count_of_names, names_of, crowded, add_answer}
use Rattle.clausal.specs.declared.faults.AddFault.TheVariants.{TooManyRules, TooManyNames}
use Rattle.naming.specs.Levels.{names_at, held_rules}
use Rattle.naming.specs.Order.{too_many_names}
use Rattle.naming.proofs.Named.{names_from_length}
use Rattle.naming.specs.declared.table.Table.{Table}

-- the lowest level that passes a test
level_found : (p : ℕ → Bool) (l : ℕ) → Some l ≡ find p (range_with_len 0 8) → (l ≡ first_at p (range_with_len 0 8)) × (l < 8)
level_found p l e = grind (arith, common_steps, nat_tests)

no_level : (p : ℕ → Bool) → None ≡ find p (range_with_len 0 8) → (l : ℕ) → l < 8 → p l ≡ false
no_level p e l h = grind (arith, common_steps, nat_tests)

no_first : (p : ℕ → Bool) → None ≡ find p (range_with_len 0 8) → first_at p (range_with_len 0 8) ≡ 8
no_first p e = grind (arith, common_steps, nat_tests)

-- the names that rules take together, with those of one rule more
names_push : (rs : List (List Row)) (rows : List Row) (l : ℕ) → names_of (rs ++ rows ∷ []) l ≡ names_of rs l + count_of_names rows l
names_push [] rows l = add-zero (count_of_names rows l) ∙ sym (zero-add (count_of_names rows l))
names_push (r ∷ rs) rows l = ap (λ n. count_of_names r l + n) (names_push rs rows l) ∙ sym (add_assoc (count_of_names r l) (names_of rs l) (count_of_names rows l))

-- what adding a rule to those held answers
module _ (rules : List (List Row)) (rows : List Row) where
  pub answer_rules : 16 ≤ length rules → Err TooManyRules ≡ add_answer rules rows
  unfolding add_answer
  answer_rules h = sym (cond-true _ _ _ (le-leb 16 (length rules) h))

-- a table, and a rule
module _ (t : Table) (rows : List Row) where
  total : (l : ℕ) → length (names_at t.levels l) + count_of_names rows l ≡ names_of (held_rules t.rules ++ rows ∷ []) l
  total l = ap (λ n. n + count_of_names rows l) (ap length (t.named l) ∙ names_from_length 0 (held_rules t.rules) t.rules_lawful l) ∙ sym (names_push (held_rules t.rules) rows l)

  crowded_then : first_at (too_many_names t.levels rows) (range_with_len 0 8) ≡ crowded (held_rules t.rules ++ rows ∷ [])
  unfolding crowded too_many_names
  crowded_then = ap (λ (p : ℕ → Bool). first_at p (range_with_len 0 8)) (fun_ext (λ l. ap (ltb 48) (total l)))

  pub answer_level : length (held_rules t.rules) < 16 → (l : ℕ) → Some l ≡ find (too_many_names t.levels rows) (range_with_len 0 8) → Err (TooManyNames l) ≡ add_answer (held_rules t.rules) rows
  unfolding add_answer
  answer_level h l e =
      let (q, k) = level_found (too_many_names t.levels rows) l e in
      let n : l ≡ crowded (held_rules t.rules ++ rows ∷ []) = q ∙ crowded_then in
      ap (λ (m : ℕ). Err (TooManyNames m)) n ∙ sym (cond-false _ _ _ (lt-leb 16 (length (held_rules t.rules)) h) ∙ cond-true _ _ _ (lt-ltb _ 8 (subst (λ m. m < 8) n k)))

  pub answer_added : length (held_rules t.rules) < 16 → None ≡ find (too_many_names t.levels rows) (range_with_len 0 8) → (k : ℕ) → k ≡ length (held_rules t.rules) → Ok k ≡ add_answer (held_rules t.rules) rows
  unfolding add_answer
  answer_added h e k q =
      let n : crowded (held_rules t.rules ++ rows ∷ []) ≡ 8 = sym crowded_then ∙ no_first (too_many_names t.levels rows) e in
      ap (λ (m : ℕ). Ok m) q ∙ sym (cond-false _ _ _ (lt-leb 16 (length (held_rules t.rules)) h) ∙ cond-false _ _ _ (le-ltb (crowded (held_rules t.rules ++ rows ∷ [])) 8 (omega arith)))

  pub rooms : None ≡ find (too_many_names t.levels rows) (range_with_len 0 8) → (l : ℕ) → l < 8 → length (names_at t.levels l) + count_of_names rows l ≤ 48
  unfolding too_many_names
  rooms e l h = ltb-false 48 _ (no_level (too_many_names t.levels rows) e l h)
