-- The lists that are built row by row: the formulas and the depths of rows.
use Rattle.std.proofs.Common.{◌≡◌, ℕ, zero, suc, ◌+◌, ◌<◌, ◌≤◌, true, List, [], ◌∷◌, ◌++◌, length, get_or, sym, refl, arith}
use Rattle.std.proofs.lemmas.Grind.{common_steps}
use Rattle.std.proofs.lemmas.List.{length_push}
use Rattle.std.proofs.lemmas.Bool.Decides.{nat_tests}
use Rattle.modal.specs.Kripke.{Formula, falsum}
use Rattle.modal.specs.Rows.{built, form_of, forms, depth_of, row_depths, children_earlier, letter_in_range, row_fits, all_fit, lawful}
use Rattle.modal.specs.declared.row.Row.{Row}
use Rattle.modal.specs.declared.row.Row.TheVariants.{False}

-- what stands there so far stays
pub get_or_built : {X : Type 0} (f : List X → Row → X) (xs : List X) (rs : List Row) (i : ℕ) (d : X) → i < length xs → get_or (built f xs rs) i d ≡ get_or xs i d
get_or_built f xs [] i d h = refl
get_or_built f xs (r ∷ rs) i d h = grind (arith, common_steps, get_or_built f (xs ++ f xs r ∷ []) rs i d)

pub built_append : {X : Type 0} (f : List X → Row → X) (xs : List X) (rs qs : List Row) → built f xs (rs ++ qs) ≡ built f (built f xs rs) qs
built_append f xs [] qs = refl
built_append f xs (r ∷ rs) qs = built_append f (xs ++ f xs r ∷ []) rs qs

pub built_push : {X : Type 0} (f : List X → Row → X) (xs : List X) (rs : List Row) (r : Row) → built f xs (rs ++ r ∷ []) ≡ built f xs rs ++ f (built f xs rs) r ∷ []
built_push f xs rs r = built_append f xs rs (r ∷ [])

pub length_built : {X : Type 0} (f : List X → Row → X) (xs : List X) (rs : List Row) → length (built f xs rs) ≡ length xs + length rs
length_built f xs [] = omega arith
length_built f xs (r ∷ rs) = grind (arith, common_steps, length_built f (xs ++ f xs r ∷ []) rs)

pub length_depths : (rs : List Row) → length (row_depths rs) ≡ length rs
length_depths rs = omega (arith, length_built depth_of [] rs)

-- a row's formula rests on those of its children alone
pub same_form : (fs gs : List Formula) (n : ℕ) (r : Row) → children_earlier n r ≡ true → ((c : ℕ) → c < n → get_or fs c falsum ≡ get_or gs c falsum) → form_of fs r ≡ form_of gs r
same_form fs gs n r h e = grind (arith, nat_tests)

pub record Placed (i : ℕ) (r : Row) : Type 0 where
  pub children : children_earlier i r ≡ true
  pub letters : letter_in_range r ≡ true

placed_from : (ds : List ℕ) (rs : List Row) → all_fit ds rs ≡ true → (i : ℕ) → i < length rs → Placed (length ds + i) (get_or rs i False)
placed_from ds [] h i l = absurd (omega arith)
placed_from ds (r ∷ rs) h zero l = record { children = grind (arith, common_steps); letters = grind (arith, common_steps) }
placed_from ds (r ∷ rs) h (suc i) l =
    let later = placed_from (ds ++ depth_of ds r ∷ []) rs in record { children = grind (arith, common_steps, later); letters = grind (arith, common_steps, later) }

form_from : (fs : List Formula) (rs : List Row) → ((i : ℕ) → i < length rs → children_earlier (length fs + i) (get_or rs i False) ≡ true) → (i : ℕ) → i < length rs
    → get_or (built form_of fs rs) (length fs + i) falsum ≡ form_of (built form_of fs rs) (get_or rs i False)
form_from fs [] h i l = absurd (omega arith)
form_from fs (r ∷ rs) h zero l = grind (arith, common_steps, same_form fs (built form_of (fs ++ form_of fs r ∷ []) rs) (length fs) r, get_or_built, h 0 l)
form_from fs (r ∷ rs) h (suc i) l =
    let more = fs ++ form_of fs r ∷ [] in
    let e : (k : ℕ) → length more + k ≡ length fs + suc k = λ k. omega (arith, length_push fs (form_of fs r)) in
    rw (e i) at (form_from more rs (λ k m. rw (sym (e k)) at (h (suc k) (omega arith))) i (omega arith))

module _ (rs : List Row) (ok : lawful rs ≡ true) where
  pub fits : all_fit [] rs ≡ true
  fits = grind arith

  pub some_rows : 0 < length rs
  some_rows = grind (arith, nat_tests)

  pub few_rows : length rs ≤ 64
  few_rows = grind (arith, nat_tests)

  pub placed : (i : ℕ) → i < length rs → Placed i (get_or rs i False)
  placed i l = rw native.Mathlib.Nat.zero-add at (placed_from [] rs fits i l)

  pub form_at : (i : ℕ) → i < length rs → get_or (forms rs) i falsum ≡ form_of (forms rs) (get_or rs i False)
  form_at i l = rw native.Mathlib.Nat.zero-add at (form_from [] rs (λ k m. (placed_from [] rs fits k m).children) i l)

pub all_fit_push : (ds : List ℕ) (rs : List Row) (r : Row) → all_fit ds rs ≡ true → row_fits (built depth_of ds rs) r ≡ true → all_fit ds (rs ++ r ∷ []) ≡ true
all_fit_push ds [] r h f = rw f refl
all_fit_push ds (q ∷ rs) r h f = grind (arith, all_fit_push (ds ++ depth_of ds q ∷ []) rs r)

pub depths_push : (ds : List ℕ) (rs : List Row) (r : Row) (d : ℕ) → ds ≡ row_depths rs → depth_of (row_depths rs) r ≡ d → ds ++ d ∷ [] ≡ row_depths (rs ++ r ∷ [])
depths_push ds rs r d e q = grind (arith, built_push)
