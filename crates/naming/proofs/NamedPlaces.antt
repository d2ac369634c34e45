-- The places that take a name: the reached ones of a level, in the order of their numbers, as many as are counted.
use Rattle.lists.proofs.Maps.{in_mapped, mapped_in, once_mapped}
use Rattle.lists.proofs.Ranges.{once_range, range_in, in_range}
use Rattle.std.proofs.Common.{◌≡◌, ℕ, ◌+◌, ◌*◌, ◌/◌, ◌<◌, ◌≤◌, Bool, true, false, cond, eqb, List, map, length, get_or, filter, count_by, sym, refl, ap, ◌∙◌, subst, arith}
use Rattle.std.specs.List.{range_with_len}
use Rattle.std.proofs.lemmas.List.FromFn.{length-range_with_len}
use Rattle.std.proofs.lemmas.List.Sums.{length-filter, count_by-le-length}
use Rattle.std.proofs.lemmas.List.{length-map}
use Rattle.std.proofs.lemmas.Bool.{and_parts, and_from, eqb-true, eq-eqb, both_ways}
use Rattle.clausal.proofs.Counted.{counted_once, counted_reached, place_same, reached_counted, same_place}
use Rattle.clausal.proofs.Rows.{Lawful, lawful_rows, reached_ok}
use Rattle.clausal.specs.Clausal.{takes_name}
use Rattle.clausal.specs.Counting.{counts_at, count_of_names, places_of, place_eq}
use Rattle.clausal.specs.Places.{Reached}
use Rattle.clausal.specs.declared.places.Place.{Place}
use Rattle.naming.proofs.Places.{number_back, place_back, within}
use Rattle.naming.specs.Marks.{MarksReached, is_reached}
use Rattle.naming.specs.Numbers.{number_of, place_numbered}
use Rattle.naming.specs.Order.{named_places, is_named}
use Rattle.lists.proofs.Members.{in_kept, kept_in, some_from, some_in}
use Rattle.lists.proofs.Onces.{once_kept, once_le}
use Rattle.lists.specs.Lists.{In, Once}
use Rattle.modal.specs.Rows.{lawful}
use Rattle.modal.specs.declared.row.Row.{Row}
use Rattle.modal.specs.declared.row.Row.TheVariants.{False}

pub reaches_reached : (rows : List Row) (n : ℕ) → is_reached rows n ≡ true → Reached rows (place_numbered n)
unfolding is_reached
reaches_reached rows n e = let (q, i, s) = some_in (place_eq (place_numbered n)) (places_of rows) e in subst (Reached rows) (sym (same_place (place_numbered n) q s)) (counted_reached rows i)

pub reached_reaches : (rows : List Row) → Lawful rows → (n : ℕ) → Reached rows (place_numbered n) → is_reached rows n ≡ true
unfolding is_reached
reached_reaches rows ok n r = some_from (place_eq (place_numbered n)) (reached_counted rows ok r) (place_same (place_numbered n))

pub marks_reached : (rows : List Row) → Lawful rows → (m : List Bool) → ((n : ℕ) → get_or m n false ≡ true → Reached rows (place_numbered n)) → ((p : Place) → Reached rows p → get_or m (number_of p) false ≡ true) → MarksReached rows m
marks_reached rows ok m only every n = go (get_or m n false) (is_reached rows n) refl refl
  where
    go : (a b : Bool) → get_or m n false ≡ a → is_reached rows n ≡ b → a ≡ b
    go true b e f = sym (reached_reaches rows ok n (only n e)) ∙ f
    go false false e f = refl
    go false true e f = absurd (both_ways (get_or m n false) e (subst (λ j. get_or m j false ≡ true) (number_back n) (every (place_numbered n) (reaches_reached rows n f))))

named_reached : (rows : List Row) (n : ℕ) → is_named rows n ≡ true → Reached rows (place_numbered n) × (takes_name (get_or rows (place_numbered n).row False) ≡ true)
unfolding is_named
named_reached rows n e = let (a, b) = and_parts _ _ e in (reaches_reached rows n a, b)

reached_named : (rows : List Row) → Lawful rows → (n : ℕ) → Reached rows (place_numbered n) → takes_name (get_or rows (place_numbered n).row False) ≡ true → is_named rows n ≡ true
unfolding is_named
reached_named rows ok n r t = and_from _ _ (reached_reaches rows ok n r) t

-- a place that is reached is at one of the rows
pub reaches_row : (rows : List Row) → lawful rows ≡ true → (n : ℕ) → is_reached rows n ≡ true → (place_numbered n).row < length rows
reaches_row rows ok n e = (reached_ok rows (lawful_rows rows ok) (reaches_reached rows n e)).0

pub named_places_length : (rows : List Row) (l : ℕ) → count_by (is_named rows) (range_with_len (l * 128) 128) ≡ length (named_places rows l 128)
unfolding named_places
named_places_length rows l = sym (length-filter (is_named rows) (range_with_len (l * 128) 128))

pub named_places_few : (rows : List Row) (l i : ℕ) → length (named_places rows l i) ≤ i
unfolding named_places
named_places_few rows l i = let a = length-filter (is_named rows) (range_with_len (l * 128) i) in let b = count_by-le-length (is_named rows) (range_with_len (l * 128) i) in let c = length-range_with_len (l * 128) i in omega arith

pub same_number : (m n : ℕ) → place_numbered m ≡ place_numbered n → m ≡ n
same_number m n e = sym (number_back m) ∙ (ap number_of e ∙ number_back n)

pub named_places_once : (rows : List Row) (l i : ℕ) → Once (named_places rows l i)
unfolding named_places
named_places_once rows l i = once_kept (is_named rows) (range_with_len (l * 128) i) (once_range (l * 128) i)

-- a named place of a level is a reached place there
named_place_in : (rows : List Row) (l w : ℕ) → w ≡ 128 → {n : ℕ} → In n (named_places rows l w) → ((place_numbered n).level ≡ l) × Reached rows (place_numbered n) × (takes_name (get_or rows (place_numbered n).row False) ≡ true)
unfolding named_places
named_place_in rows l w z {n} i =
    let (j, e) = kept_in (is_named rows) (range_with_len (l * 128) w) i in
    let (p, q) = range_in (l * 128) w n j in
    let (r, t) = named_reached rows n e in
    (omega arith, r, t)

pub named_place_at : (rows : List Row) (l : ℕ) {n : ℕ} → In n (named_places rows l 128) → ((place_numbered n).level ≡ l) × Reached rows (place_numbered n) × (takes_name (get_or rows (place_numbered n).row False) ≡ true)
named_place_at rows l i = named_place_in rows l 128 refl i

same_size : (a b c : ℕ) → c ≡ a → c ≤ b → b ≤ c → a ≡ b
same_size a b c e p q = omega arith

module _ (rows : List Row) (ok : Lawful rows) (l : ℕ) where
  in_named_places : (w : ℕ) → w ≡ 128 → (p : Place) → Reached rows p → takes_name (get_or rows p.row False) ≡ true → p.level ≡ l → In (number_of p) (named_places rows l w)
  unfolding named_places
  in_named_places w z p r t e =
      let f = within rows ok r in
      let b = place_back p f.row in
      let lev : number_of p / 128 ≡ l = ap (λ (x : Place). x.level) b ∙ e in
      in_kept (is_named rows) (in_range (l * 128) w (number_of p) (omega arith) (omega arith)) (reached_named rows ok (number_of p) (subst (Reached rows) (sym b) r) (subst (λ (x : Place). takes_name (get_or rows x.row False) ≡ true) (sym b) t))

  pub named_at : (p : Place) → Reached rows p → takes_name (get_or rows p.row False) ≡ true → p.level ≡ l → In (number_of p) (named_places rows l 128)
  named_at = in_named_places 128 refl

  there_in : (p : Place) → (n : ℕ) × In n (named_places rows l 128) × (place_numbered n ≡ p) → In p (filter (counts_at rows l) (places_of rows))
  there_in p (n, i, e) = let (a, r, t) = named_place_at rows l i in subst (λ (x : Place). In x (filter (counts_at rows l) (places_of rows))) e (in_kept (counts_at rows l) (reached_counted rows ok r) (and_from _ _ t (eq-eqb _ l a)))

  back_in : (p : Place) → In p (places_of rows) × (counts_at rows l p ≡ true) → In p (map place_numbered (named_places rows l 128))
  back_in p (i, c) = let (t, e) = and_parts _ _ c in let r = counted_reached rows i in subst (λ (x : Place). In x (map place_numbered (named_places rows l 128))) (place_back p (within rows ok r).row) (in_mapped place_numbered (named_at p r t (eqb-true _ l e)))

  pub named_places_counted : length (named_places rows l 128) ≡ length (filter (counts_at rows l) (places_of rows))
  named_places_counted = same_size _ _ _ (length-map (named_places rows l 128) place_numbered)
      (once_le _ _ (once_mapped place_numbered _ (named_places_once rows l 128) (λ m n _ _. same_number m n)) (λ p i. there_in p (mapped_in place_numbered (named_places rows l 128) i)))
      (once_le _ _ (once_kept (counts_at rows l) (places_of rows) (counted_once rows)) (λ p i. back_in p (kept_in (counts_at rows l) (places_of rows) i)))

  pub names_counted : (z : ℕ) → z ≡ cond (eqb l 0) 1 0 → length (named_places rows l 128) + z ≡ count_of_names rows l
  names_counted z e = ap (λ n. n + z) named_places_counted ∙ ap (λ y. length (filter (counts_at rows l) (places_of rows)) + y) e
