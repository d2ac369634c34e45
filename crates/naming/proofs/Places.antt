-- Places and their numbers.
use Rattle.std.proofs.lemmas.Grind.{common_steps}
use Rattle.std.proofs.lemmas.Bool.Decides.{nat_tests}
use Rattle.std.proofs.Common.{◌≡◌, ℕ, ◌+◌, ◌*◌, ◌/◌, ◌%◌, ◌<◌, Bool, true, false, cond, eqb, List, arith}
use Rattle.std.proofs.lemmas.Bool.{eq-eqb, ne_eqb}
use Rattle.clausal.proofs.Rows.{Lawful, reached_ok}
use Rattle.clausal.specs.Places.{Reached}
use Rattle.clausal.specs.declared.places.Place.{Place}
use Rattle.naming.specs.Numbers.{number_of, place_numbered}
use Rattle.modal.specs.declared.row.Row.{Row}

pub place_back : (p : Place) → p.row < 64 → place_numbered (number_of p) ≡ p
place_back p h =
    let a : number_of p % 128 / 2 ≡ p.row = go p.plus in
    let b : eqb (number_of p % 2) 0 ≡ p.plus = sign p.plus in
    let c : number_of p / 128 ≡ p.level = level p.plus in
    λ i. record { row = a i; plus = b i; level = c i }
  where
    go : (s : Bool) → (p.level * 128 + p.row * 2 + cond s 0 1) % 128 / 2 ≡ p.row
    go true = omega arith
    go false = omega arith

    level : (s : Bool) → (p.level * 128 + p.row * 2 + cond s 0 1) / 128 ≡ p.level
    level true = omega arith
    level false = omega arith

    sign : (s : Bool) → eqb ((p.level * 128 + p.row * 2 + cond s 0 1) % 2) 0 ≡ s
    sign true = eq-eqb _ 0 (omega arith)
    sign false = ne_eqb _ 0 (λ e. omega arith)

pub number_small : (p : Place) → p.row < 64 → p.level < 8 → number_of p < 1024
number_small p h k = grind (arith, common_steps, nat_tests)

pub number_back : (n : ℕ) → number_of (place_numbered n) ≡ n
number_back n = grind (arith, common_steps, nat_tests)

pub record Within (p : Place) : Type 0 where
  pub row : p.row < 64
  pub level : p.level < 8

pub within : (rows : List Row) → Lawful rows → {p : Place} → Reached rows p → Within p
within rows ok h = let (a, b) = reached_ok rows ok h in let f = ok.few in record { row = omega arith; level = omega arith }
