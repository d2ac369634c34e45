-- What a claim comes down to, by its row and its sign.
use Rattle.std.proofs.Common.{◌≡◌, ℕ, Bool, true, false, List, [], length, get_or, sym, refl, ap, ◌∙◌, inl, inr, arith, Bor}
use Rattle.std.proofs.lemmas.Bool.{cases_lt}
use Rattle.std.proofs.Math.Bool.{not-not}
use Rattle.std.proofs.lemmas.List.{get_or_past}
use Rattle.lists.proofs.Tests.{not_and, not_or, not_every, not_some}
use Rattle.modal.specs.Kripke.{Formula, falsum, world, meets}
use Rattle.modal.specs.Rows.{form_of, forms, formula_at, lawful}
use Rattle.modal.specs.Rules.{rows_of}
use Rattle.modal.specs.declared.row.Row.{Row}
use Rattle.modal.specs.declared.row.Row.TheVariants as row
use Rattle.modal.specs.declared.rule.Rule.{Rule}
use Rattle.modal.proofs.Built.{form_at, length_built}
use Rattle.tableau.specs.Claims.{claimed, step_of, ComesTo}
use Rattle.tableau.specs.declared.claims.Claim.{Claim}

-- the formula of any number is that of its row, and past the last row that of a row false
form_any : (rs : List Row) → lawful rs ≡ true → (i : ℕ) → formula_at (forms rs) i ≡ form_of (forms rs) (get_or rs i row.False)
form_any rs ok i = elim (cases_lt i (length rs)) [
  | inl h ↦ form_at rs ok i h
  | inr h ↦ get_or_past (forms rs) i falsum (omega (arith, length_built form_of [] rs)) ∙ ap (form_of (forms rs)) (sym (get_or_past rs i row.False h))
]

module _ (rule : Bor Rule) (k : ℕ) where
  abbrev fs : List Formula
  fs = forms (rows_of rule.now)

  abbrev Comes : Bool → Row → Type 0
  Comes plus r = ComesTo (record { plus = plus; formula = form_of fs r }) (step_of (record { rule = rule; row = k; plus = plus }) r)

  comes : (plus : Bool) (r : Row) → Comes plus r
  comes true row.False = record { same = λ ws w. refl; lighter = omega arith }
  comes false row.False = record { same = λ ws w. refl; lighter = omega arith }
  comes true row.True = record { same = λ ws w. refl; lighter = omega arith }
  comes false row.True = record { same = λ ws w. refl; lighter = omega arith }
  comes plus (row.Letter a) = record { same = λ ws w. refl; lighter = omega arith }
  comes true (row.Not a) = record { same = λ ws w. refl; lighter = omega arith }
  comes false (row.Not a) = record { same = λ ws w. not-not (meets (formula_at fs a) ws w); lighter = omega arith }
  comes true (row.And a b) = record { same = λ ws w. refl; lighter = omega arith }
  comes false (row.And a b) = record { same = λ ws w. not_and (meets (formula_at fs a) ws w) (meets (formula_at fs b) ws w); lighter = omega arith }
  comes true (row.Or a b) = record { same = λ ws w. refl; lighter = omega arith }
  comes false (row.Or a b) = record { same = λ ws w. not_or (meets (formula_at fs a) ws w) (meets (formula_at fs b) ws w); lighter = omega arith }
  comes true (row.Box a) = record { same = λ ws w. refl; lighter = omega arith }
  comes false (row.Box a) = record { same = λ ws w. not_every (meets (formula_at fs a) ws) (world ws w).successors; lighter = omega arith }
  comes true (row.Diamond a) = record { same = λ ws w. refl; lighter = omega arith }
  comes false (row.Diamond a) = record { same = λ ws w. not_some (meets (formula_at fs a) ws) (world ws w).successors; lighter = omega arith }

-- a claim comes down to the step of its row
pub comes_to : (c : Claim) (r : Row) → lawful (rows_of c.rule.now) ≡ true → r ≡ get_or (rows_of c.rule.now) c.row row.False → ComesTo (claimed c) (step_of c r)
comes_to c r ok e = rw (form_any (rows_of c.rule.now) ok c.row, sym e) (comes c.rule c.row c.plus r)
