-- What one name of a rule gives: at most two definitions, at most one box or diamond clause, over rows of the rule.
use Rattle.std.proofs.lemmas.Grind.{common_steps}
use Rattle.std.proofs.lemmas.Bool.Decides.{nat_tests}
use Rattle.std.proofs.Common.{◌≡◌, ℕ, ◌+◌, ◌<◌, ◌≤◌, Bool, true, List, ◌++◌, length, get_or, ap, ◌∙◌, arith, length-append}
use Rattle.clausal.proofs.Modals.{modals_length}
use Rattle.clausal.proofs.Rows.{lawful_rows}
use Rattle.clausal.proofs.Signed.{Below, shape_below}
use Rattle.modal.specs.Rows.{lawful}
use Rattle.clausal.specs.Clausal.{shape}
use Rattle.clausal.specs.declared.names.Name.{Name}
use Rattle.clausal.specs.declared.names.Name.TheVariants.{Free as free, Handle as handle, Place as place}
use Rattle.clausal.specs.declared.shapes.Shape.{Shape}
use Rattle.clausal.specs.declared.shapes.Shape.TheVariants.{All as all, Both as both, Either as either, One as one, Plain as plain}
use Rattle.naming.specs.Names.{literal_in}
use Rattle.naming.specs.TakenIn.{clauses_of_name, modals_of_name, ShapeInRule}
use Rattle.modal.specs.declared.row.Row.{Row}
use Rattle.modal.specs.declared.row.Row.TheVariants.{False}

pub clauses_of_name_few : (xs : List Name) (r : ℕ) (rows : List Row) (n : ℕ) (x : Name) → length (clauses_of_name xs r rows n x) ≤ 2
clauses_of_name_few v1 v2 v3 v4 v5 = grind (arith, common_steps, nat_tests)

pub modals_of_name_few : (under : Shape → List ℕ) → ((z : Shape) → length (under z) ≤ 1) → (xs : List Name) (r : ℕ) (rows : List Row) (n : ℕ) (x : Name) → length (modals_of_name under xs r rows n x) ≤ 1
modals_of_name_few under u xs r rows n free = omega arith
modals_of_name_few under u xs r rows n (place q k s) = omega (arith, modals_length n (literal_in xs r rows s) (under (shape (get_or rows k False) s)), u (shape (get_or rows k False) s))
modals_of_name_few under u xs r rows n (handle q) = omega arith

pub longer : {A : Type 0} (o o' g : List A) (m : ℕ) → o' ≡ o ++ g → length g ≤ m → length o' ≤ length o + m
longer o o' g m e h = let a = ap length e ∙ length-append o g in omega arith

-- what a row of a lawful rule leads to under a sign is among the rows
pub shape_rows : (rows : List Row) (k : ℕ) (s : Bool) → lawful rows ≡ true → k < length rows → ShapeInRule rows (shape (get_or rows k False) s)
shape_rows rows k s ok h = go (shape (get_or rows k False) s) (shape_below k (get_or rows k False) s ((lawful_rows rows ok).ordered k h))
  where
    go : (z : Shape) → Below k z → ShapeInRule rows z
    go plain b = tt
    go (both c d) b = (omega arith, omega arith)
    go (either c d) b = (omega arith, omega arith)
    go (all c) b = omega arith
    go (one c) b = omega arith
