-- What a row says with its sign, by its shape, and where the shape leads: to earlier rows, at places that are reached.
use Rattle.std.proofs.lemmas.Grind.{common_steps}
use Rattle.std.proofs.lemmas.Bool.Decides.{nat_tests}
use Rattle.std.proofs.Common.{◌≡◌, ℕ, suc, ◌<◌, Bool, true, false, ◌&&◌, ◌||◌, List, get_or, refl, arith}
use mathlib.Core.Bool.{false≢true}
use Rattle.modal.specs.Rows.{formula_at, form_of}
use Rattle.clausal.specs.Clausal.{shape, takes_name}
use Rattle.clausal.specs.Places.{Reached, leads, next}
use Rattle.clausal.specs.States.{signed}
use Rattle.clausal.specs.declared.places.Place.{Place}
use Rattle.clausal.specs.declared.shapes.Shape.{Shape}
use Rattle.clausal.specs.declared.shapes.Shape.TheVariants.{All as all, Both as both, Either as either, One as one, Plain as plain}
use Rattle.lists.specs.Lists.{In, every, here, some, there}
use Rattle.lists.proofs.Tests.{not_and, not_or, not_every, not_some}
use Rattle.modal.specs.Kripke.{Formula, World, meets, world}
use Rattle.modal.specs.declared.row.Row.{Row}
use Rattle.modal.specs.declared.row.Row.TheVariants.{And, Box, Diamond, False, Letter, Not, Or, True}
use Rattle.clausal.proofs.Rows.{RowOk}

-- what a signed row says, by its shape
abbrev pub says_shape : (ℕ → Formula) → Bool → List World → ℕ → Shape → Bool
says_shape F s ws w plain = true
says_shape F s ws w (both c e) = meets (signed s (F c)) ws w && meets (signed s (F e)) ws w
says_shape F s ws w (either c e) = meets (signed s (F c)) ws w || meets (signed s (F e)) ws w
says_shape F s ws w (all c) = every (meets (signed s (F c)) ws) (world ws w).successors
says_shape F s ws w (one c) = some (meets (signed s (F c)) ws) (world ws w).successors

pub shape_says : (fs : List Formula) (r : Row) (s : Bool) (ws : List World) (w : ℕ) → takes_name r ≡ true → meets (signed s (form_of fs r)) ws w ≡ says_shape (formula_at fs) s ws w (shape r s)
shape_says fs False s ws w t = absurd (false≢true t)
shape_says fs True s ws w t = absurd (false≢true t)
shape_says fs (Letter a) s ws w t = absurd (false≢true t)
shape_says fs (Not c) s ws w t = absurd (false≢true t)
shape_says fs (And c e) true ws w t = refl
shape_says fs (And c e) false ws w t = not_and (meets (formula_at fs c) ws w) (meets (formula_at fs e) ws w)
shape_says fs (Or c e) true ws w t = refl
shape_says fs (Or c e) false ws w t = not_or (meets (formula_at fs c) ws w) (meets (formula_at fs e) ws w)
shape_says fs (Box c) true ws w t = refl
shape_says fs (Box c) false ws w t = not_every (meets (formula_at fs c) ws) (world ws w).successors
shape_says fs (Diamond c) true ws w t = refl
shape_says fs (Diamond c) false ws w t = not_some (meets (formula_at fs c) ws) (world ws w).successors

-- a shape's rows are earlier
abbrev pub Below : ℕ → Shape → Type 0
Below k plain = Unit {0}
Below k (both c e) = (c < k) × (e < k)
Below k (either c e) = (c < k) × (e < k)
Below k (all c) = c < k
Below k (one c) = c < k

pub shape_below : (k : ℕ) (r : Row) (s : Bool) → RowOk k r → Below k (shape r s)
shape_below v1 v2 v3 v4 = grind (arith, common_steps, nat_tests)

-- the places that a named place leads to are reached
abbrev pub Kids : List Row → Bool → ℕ → Shape → Type 0
Kids rows s l plain = Unit {0}
Kids rows s l (both c e) = Reached rows (record { row = c; plus = s; level = l }) × Reached rows (record { row = e; plus = s; level = l })
Kids rows s l (either c e) = Reached rows (record { row = c; plus = s; level = l }) × Reached rows (record { row = e; plus = s; level = l })
Kids rows s l (all c) = Reached rows (record { row = c; plus = s; level = suc l })
Kids rows s l (one c) = Reached rows (record { row = c; plus = s; level = suc l })

pub kids : (rows : List Row) (k : ℕ) (s : Bool) (l : ℕ) → Reached rows (record { row = k; plus = s; level = l }) → Kids rows s l (shape (get_or rows k False) s)
kids rows k s l x = go s (get_or rows k False) (λ q. next x)
  where
    go : (t : Bool) (row : Row) → ((q : Place) → In q (leads row t l) → Reached rows q) → Kids rows t l (shape row t)
    go t False to = tt
    go t True to = tt
    go t (Letter a) to = tt
    go t (Not c) to = tt
    go true (And c e) to = (to _ here, to _ (there here))
    go false (And c e) to = (to _ here, to _ (there here))
    go true (Or c e) to = (to _ here, to _ (there here))
    go false (Or c e) to = (to _ here, to _ (there here))
    go true (Box c) to = to _ here
    go false (Box c) to = to _ here
    go true (Diamond c) to = to _ here
    go false (Diamond c) to = to _ here
