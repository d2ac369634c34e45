-- The names of a level: what a look-up gives, and the literals of rows over them.
use Rattle.std.proofs.Common.{◌≡◌, ℕ, ◌+◌, ◌<◌, Bool, true, false, cond, ltb, List, length, get_or, Option, Some, None, position, sym, refl, ap, ◌∙◌, arith}
use Rattle.std.specs.List.{position_or_len}
use Rattle.std.specs.Option.{option_map, unwrap_or}
use Rattle.std.proofs.lemmas.Bool.{lt-ltb, le-ltb, false_from_ne_true, both_ways}
use Rattle.std.proofs.lemmas.List.Recursion.{is_position_or_len}
use Rattle.lists.specs.Lists.{some, first_at}
use Rattle.lists.proofs.Firsts.{first_passes, first_no}
use Rattle.lists.proofs.Members.{some_from, get_or_in}
use Rattle.modal.specs.Rows.{lawful}
use Rattle.modal.specs.declared.row.Row.{Row}
use Rattle.modal.specs.declared.row.Row.TheVariants.{False}
use Rattle.clausal.specs.Places.{is_place_of, name_in, literal_of, literals_of}
use Rattle.clausal.specs.declared.names.Name.{Name}
use Rattle.clausal.specs.declared.names.Name.TheVariants.{Free as free}
use Rattle.clausal.proofs.Rows.{RowOk, lawful_rows, literal_is}
use Rattle.naming.specs.Names.{literal_in}

-- where the first name stands that passes a test, in the library's words
first_place : (p : Name → Bool) (xs : List Name) → first_at p xs ≡ position_or_len p xs
first_place p = is_position_or_len (first_at p) p refl (λ x xs. ap (λ n. cond (p x) 0 n) (omega arith))

some_first : (p : Name → Bool) (xs : List Name) → some p xs ≡ ltb (first_at p xs) (length xs)
some_first p xs = go (some p xs) refl
  where
    go : (b : Bool) → some p xs ≡ b → b ≡ ltb (first_at p xs) (length xs)
    go true e = sym (lt-ltb _ _ (first_passes p free xs e).1)
    go false e = sym (le-ltb _ _ (omega (arith, first_no p free xs (λ j h. false_from_ne_true _ (λ t. both_ways _ e (some_from p (get_or_in xs j free h) t))))))

pub position_first : (p : Name → Bool) (xs : List Name) → position p xs ≡ cond (some p xs) (Some (first_at p xs)) None
position_first p xs = rw (← first_place p xs, ← some_first p xs) refl

pub name_found : (xs : List Name) (r k : ℕ) (s : Bool) → unwrap_or (option_map (λ i. 16 + i) (position (is_place_of r k s) xs)) 0 ≡ name_in xs r k s
name_found xs r k s = ap (λ (o : Option ℕ). unwrap_or (option_map (λ i. 16 + i) o) 0) (position_first (is_place_of r k s) xs) ∙ go (some (is_place_of r k s) xs)
  where
    go : (b : Bool) → unwrap_or (option_map (λ i. 16 + i) (cond b (Some (first_at (is_place_of r k s) xs)) None)) 0 ≡ cond b (16 + first_at (is_place_of r k s) xs) 0
    go true = refl
    go false = refl

-- the literal of a row, by the row and the literals of those before it
pub literal_by_row : (xs : List Name) (r : ℕ) (rows : List Row) (s : Bool) (k : ℕ) → lawful rows ≡ true → k < length rows → literal_in xs r rows s k ≡ literal_of (name_in xs r) (literals_of (name_in xs r) rows) k (get_or rows k False) s
unfolding literal_in
literal_by_row xs r rows s k ok h = literal_is rows (lawful_rows rows ok) (name_in xs r) _ k s h

-- a lawful row, by itself
pub row_ok : (rows : List Row) (k : ℕ) → lawful rows ≡ true → k < length rows → RowOk k (get_or rows k False)
row_ok rows k ok h = (lawful_rows rows ok).ordered k h
