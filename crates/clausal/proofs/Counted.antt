-- The places that are counted are the places that are reached, each once.
use Rattle.std.proofs.lemmas.Grind.{common_steps}
use Rattle.std.proofs.lemmas.Bool.Decides.{nat_tests}
use Rattle.std.proofs.Common.{◌≡◌, ℕ, zero, suc, ◌<◌, ◌≤◌, Bool, true, false, cond, eqb, ◌⊎◌, List, [], ◌∷◌, length, get_or, sym, refl, subst, inl, inr, arith}
use Rattle.std.proofs.lemmas.Bool.{and_parts, eqb-true, eq-eqb, cases_lt, cases_eq, both_ways}
use Rattle.std.proofs.lemmas.List.{get_or_past}
use Rattle.clausal.proofs.Reading.{same_sign}
use Rattle.clausal.proofs.Rows.{Lawful, RowOk, lead_ok}
use Rattle.clausal.specs.Counting.{joined_by, places_of, place_eq, spread, walk}
use Rattle.clausal.specs.Places.{Reached, last, next, last_of, leads_of}
use Rattle.clausal.specs.declared.places.Place.{Place}
use Rattle.lists.proofs.Members.{some_from, some_in}
use Rattle.lists.specs.Lists.{In, Once, here, some, there}
use Rattle.modal.specs.declared.row.Row.{Row}
use Rattle.modal.specs.declared.row.Row.TheVariants.{False}

pub same_place : (p q : Place) → place_eq p q ≡ true → p ≡ q
same_place p q h =
    let (a, b) = and_parts _ _ h in
    let (c, d) = and_parts _ _ b in
    let x = eqb-true p.row q.row a in
    let y = same_sign p.plus q.plus c in
    let z = eqb-true p.level q.level d in
    λ i. record { row = x i; plus = y i; level = z i }

pub place_same : (p : Place) → place_eq p p ≡ true
place_same p = grind (arith, common_steps, nat_tests)

module _ (q : Place) (ps : List Place) where
  put_in : (b : Bool) {p : Place} → In p ps → In p (cond b ps (q ∷ ps))
  put_in true i = i
  put_in false i = there i

  put_self : (b : Bool) → some (place_eq q) ps ≡ b → In q (cond b ps (q ∷ ps))
  put_self true e = let (x, i, h) = some_in (place_eq q) ps e in subst (λ z. In z ps) (sym (same_place q x h)) i
  put_self false e = here

  put_from : (b : Bool) {p : Place} → In p (cond b ps (q ∷ ps)) → (q ≡ p) ⊎ In p ps
  put_from v1 v2 = grind (arith, common_steps, nat_tests)

  put_once : (b : Bool) → some (place_eq q) ps ≡ b → Once ps → Once (cond b ps (q ∷ ps))
  put_once true e o = o
  put_once false e o = (λ i. both_ways _ e (some_from (place_eq q) i (place_same q)), o)

join_right : (qs ps : List Place) {p : Place} → In p ps → In p (joined_by qs ps)
join_right [] ps i = i
join_right (q ∷ qs) ps i = join_right qs _ (put_in q ps _ i)

join_left : {p : Place} {qs : List Place} (ps : List Place) → In p qs → In p (joined_by qs ps)
join_left {p} ps (here {xs = qs}) = join_right qs _ (put_self p ps _ refl)
join_left ps (there i) = join_left _ i

join_from : (qs ps : List Place) {p : Place} → In p (joined_by qs ps) → In p qs ⊎ In p ps
join_from [] ps i = inr i
join_from (q ∷ qs) ps {p} i = elim (join_from qs _ i) [ inl j ↦ inl (there j) | inr j ↦ elim (put_from q ps _ j) [ inl e ↦ inl (subst (λ z. In p (z ∷ qs)) (sym e) here) | inr k ↦ inr k ] ]

join_once : (qs ps : List Place) → Once ps → Once (joined_by qs ps)
join_once [] ps o = o
join_once (q ∷ qs) ps o = join_once qs _ (put_once q ps _ refl o)

module _ (rows : List Row) where
  module _ (k : ℕ) where
    spread_keeps : (qs ps : List Place) {p : Place} → In p ps → In p (spread rows k qs ps)
    spread_keeps [] ps i = i
    spread_keeps (q ∷ qs) ps {p} i = spread_keeps qs _ (go (eqb q.row k))
      where
        go : (b : Bool) → In p (cond b (joined_by (leads_of rows q) ps) ps)
        go true = join_right (leads_of rows q) ps i
        go false = i

    spread_leads : {q : Place} {qs : List Place} (ps : List Place) {p : Place} → In q qs → q.row ≡ k → In p (leads_of rows q) → In p (spread rows k qs ps)
    spread_leads {q} ps {p} (here {xs = qs}) e i = spread_keeps qs _ (subst (λ b. In p (cond b (joined_by (leads_of rows q) ps) ps)) (sym (eq-eqb q.row k e)) (join_left ps i))
    spread_leads ps (there j) e i = spread_leads _ j e i

    spread_from : (qs ps : List Place) {p : Place} → In p (spread rows k qs ps) → In p ps ⊎ ((q : Place) × In q qs × (q.row ≡ k) × In p (leads_of rows q))
    spread_from [] ps i = inl i
    spread_from (q ∷ qs) ps {p} i = elim (spread_from qs _ i) [
      | inl j ↦ go (eqb q.row k) refl j
      | inr (x, y, e, z) ↦ inr (x, there y, e, z)
    ]
      where
        go : (b : Bool) → eqb q.row k ≡ b → In p (cond b (joined_by (leads_of rows q) ps) ps) → In p ps ⊎ ((x : Place) × In x (q ∷ qs) × (x.row ≡ k) × In p (leads_of rows x))
        go true e j = elim (join_from (leads_of rows q) ps j) [ inl l ↦ inr (q, here, eqb-true q.row k e, l) | inr l ↦ inl l ]
        go false e j = inl j

    spread_once : (qs ps : List Place) → Once ps → Once (spread rows k qs ps)
    spread_once [] ps o = o
    spread_once (q ∷ qs) ps o = spread_once qs _ (go (eqb q.row k))
      where
        go : (b : Bool) → Once (cond b (joined_by (leads_of rows q) ps) ps)
        go true = join_once (leads_of rows q) ps o
        go false = o

  walk_keeps : (k : ℕ) (ps : List Place) {p : Place} → In p ps → In p (walk rows k ps)
  walk_keeps zero ps i = i
  walk_keeps (suc k) ps i = walk_keeps k _ (spread_keeps k ps ps i)

  walk_once : (k : ℕ) (ps : List Place) → Once ps → Once (walk rows k ps)
  walk_once zero ps o = o
  walk_once (suc k) ps o = walk_once k _ (spread_once k ps ps o)

  walk_reached : (k : ℕ) (ps : List Place) → ((p : Place) → In p ps → Reached rows p) → {p : Place} → In p (walk rows k ps) → Reached rows p
  walk_reached zero ps h {p} i = h p i
  walk_reached (suc k) ps h i = walk_reached k (spread rows k ps ps) (λ p j. elim (spread_from k ps ps j) [ inl x ↦ h p x | inr (q, x, e, y) ↦ next (h q x) y ]) i

  module _ (ok : Lawful rows) where
    leads_earlier : (q : Place) {p : Place} → In p (leads_of rows q) → p.row < q.row
    leads_earlier q i = (lead_ok rows q.row (get_or rows q.row False) q.plus q.level ordered i).0
      where
        ordered : RowOk q.row (get_or rows q.row False)
        ordered = elim (cases_lt q.row (length rows)) [ inl h ↦ ok.ordered q.row h | inr h ↦ subst (RowOk q.row) (sym (get_or_past rows q.row False h)) tt ]

    -- the places of the rows from k on have what they lead to in the list
    abbrev Closed : ℕ → List Place → Type 0
    Closed k ps = (q p : Place) → In q ps → k ≤ q.row → In p (leads_of rows q) → In p ps

    spread_closed : (k : ℕ) (ps : List Place) → Closed (suc k) ps → Closed k (spread rows k ps ps)
    spread_closed k ps h q p i l j = elim (spread_from k ps ps i) [
      | inl x ↦ elim (cases_eq q.row k) [ inl e ↦ spread_leads k ps x e j | inr e ↦ spread_keeps k ps ps (h q p x (omega arith) j) ]
      | inr (z, x, e, y) ↦ (let b = leads_earlier z y in absurd (omega arith))
    ]

    walk_closed : (k : ℕ) (ps : List Place) → Closed k ps → Closed 0 (walk rows k ps)
    walk_closed zero ps h = h
    walk_closed (suc k) ps h = walk_closed k (spread rows k ps ps) (spread_closed k ps h)

    pub reached_counted : {p : Place} → Reached rows p → In p (places_of rows)
    reached_counted last = walk_keeps (length rows) _ here
    reached_counted (next {p = q} {q = p} r i) = walk_closed (length rows) _ (λ q p j l. elim (only_last j l) [ ]) q p (reached_counted r) (omega arith) i
      where
        only_last : {q : Place} → In q (last_of rows ∷ []) → length rows ≤ q.row → ⊥
        only_last here l = omega (arith, ok.nonempty)
        only_last (there j) l = elim j [ ]

  pub counted_reached : {p : Place} → In p (places_of rows) → Reached rows p
  counted_reached i = walk_reached (length rows) _ start i
    where
      start : (p : Place) → In p (last_of rows ∷ []) → Reached rows p
      start p here = last
      start p (there j) = elim j [ ]

  pub counted_once : Once (places_of rows)
  counted_once = walk_once (length rows) _ ((λ i. elim i [ ]), tt)
