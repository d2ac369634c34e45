-- A walk over the places of a rule: what it keeps, and where it ends.
use Rattle.std.proofs.lemmas.Grind.{common_steps}
use Rattle.std.proofs.lemmas.Bool.Decides.{nat_tests}
use Rattle.std.proofs.Common.{◌≡◌, ℕ, suc, ◌+◌, ◌<◌, Bool, true, false, cond, not, ◌⊎◌, List, [], ◌∷◌, ◌++◌, length, get_or, set, replicate, sym, refl, ◌∙◌, subst, inl, inr, arith}
use Rattle.std.proofs.lemmas.List.{get_or-set_same, get_or-set_other, length-set, get_or_past, length-replicate}
use Rattle.std.proofs.lemmas.Bool.{cases_eq, cases_lt, both_ways}
use Rattle.clausal.proofs.Rows.{Lawful, reached_ok}
use Rattle.clausal.specs.Places.{Reached, last, last_of, leads, leads_of, next}
use Rattle.clausal.specs.declared.places.Place.{Place}
use Rattle.naming.proofs.Places.{number_small, place_back, within}
use Rattle.naming.proofs.NamedPlaces.{marks_reached}
use Rattle.naming.specs.Marks.{MarksReached}
use Rattle.naming.specs.Numbers.{number_of, place_numbered}
use Rattle.naming.specs.Walk.{WalkInvariant}
use Rattle.lists.proofs.Members.{in_either, in_left, in_one, in_right}
use Rattle.lists.specs.Lists.{In, here, there}
use Rattle.modal.specs.declared.row.Row.{Row}
use Rattle.modal.specs.declared.row.Row.TheVariants.{And, Box, Diamond, False, Letter, Not, Or, True}

none_marked : (n k : ℕ) → get_or (replicate n false) k false ≡ false
none_marked n k = grind (arith, common_steps, nat_tests)

pub begun : (rows : List Row) → WalkInvariant rows (last_of rows ∷ []) (replicate 1024 false) []
begun rows = record {
  size = length-replicate 1024 false;
  only = λ n e. absurd (both_ways _ (none_marked 1024 n) e);
  listed = λ n i. elim i [ ];
  due = λ p i. subst (Reached rows) (in_one i) last;
  closed = λ n e. absurd (both_ways _ (none_marked 1024 n) e);
  root = inr here;
}

module _ (rows : List Row) (ok : Lawful rows) where
  module _ (p : Place) (ps : List Place) (m : List Bool) (s : List ℕ) (w : WalkInvariant rows (p ∷ ps) m s) where
    small : number_of p < length m
    small = let f = within rows ok (w.due p here) in omega (arith, number_small p f.row f.level, w.size)

    keep : (k : ℕ) → get_or m k false ≡ true → get_or (set m (number_of p) true) k false ≡ true
    keep k e = elim (cases_eq k (number_of p)) [ inl q ↦ rw q (get_or-set_same m (number_of p) true false small) | inr q ↦ get_or-set_other m (number_of p) k true false q ∙ e ]

    held_on : (q : Place) → (get_or m (number_of q) false ≡ true) ⊎ In q (p ∷ ps) → (get_or (set m (number_of p) true) (number_of q) false ≡ true) ⊎ In q ps
    held_on q (inl e) = inl (keep (number_of q) e)
    held_on q (inr here) = inl (get_or-set_same m (number_of p) true false small)
    held_on q (inr (there i)) = inr i

    stays : (b : Bool) {k : ℕ} → In k s → In k (cond b s (s ++ (number_of p ∷ [])))
    stays true i = i
    stays false i = in_left (number_of p ∷ []) i

    abbrev Shut : List ℕ → ℕ → Type 0
    Shut t k = In k t ⊎ ((q : Place) → In q (leads_of rows (place_numbered k)) → (get_or (set m (number_of p) true) (number_of q) false ≡ true) ⊎ In q ps)

    old_shut : (b : Bool) (k : ℕ) → get_or m k false ≡ true → Shut (cond b s (s ++ (number_of p ∷ []))) k
    old_shut b k e = elim (w.closed k e) [ inl i ↦ inl (stays b i) | inr f ↦ inr (λ q i. held_on q (f q i)) ]

    new_shut : (b : Bool) → get_or m (number_of p) false ≡ b → Shut (cond b s (s ++ (number_of p ∷ []))) (number_of p)
    new_shut true e = old_shut true (number_of p) e
    new_shut false e = inl (in_right s here)

    pub visited : WalkInvariant rows ps (set m (number_of p) true) (cond (get_or m (number_of p) false) s (s ++ (number_of p ∷ [])))
    visited = record {
      size = length-set m (number_of p) true ∙ w.size;
      only = λ k e. elim (cases_eq k (number_of p)) [ inl q ↦ rw (q, place_back p (within rows ok (w.due p here)).row) (w.due p here) | inr q ↦ w.only k (sym (get_or-set_other m (number_of p) k true false q) ∙ e) ];
      listed = λ k i. listed (get_or m (number_of p) false) k i;
      due = λ q i. w.due q (there i);
      closed = λ k e. elim (cases_eq k (number_of p)) [ inl q ↦ rw q (new_shut (get_or m (number_of p) false) refl) | inr q ↦ old_shut (get_or m (number_of p) false) k (sym (get_or-set_other m (number_of p) k true false q) ∙ e) ];
      root = held_on (last_of rows) w.root;
    }
      where
        listed : (b : Bool) (k : ℕ) → In k (cond b s (s ++ (number_of p ∷ []))) → get_or (set m (number_of p) true) k false ≡ true
        listed true k i = keep k (w.listed k i)
        listed false k i = elim (in_either s _ i) [ inl j ↦ keep k (w.listed k j) | inr j ↦ rw (← in_one j) (get_or-set_same m (number_of p) true false small) ]

  -- a place comes off the stack, and what it leads to is due
  module _ (n : ℕ) (m : List Bool) (s : List ℕ) (w : WalkInvariant rows [] m (s ++ (n ∷ []))) where
    on : Reached rows (place_numbered n)
    on = w.only n (w.listed n (in_right s here))

    pub popped : WalkInvariant rows (leads_of rows (place_numbered n)) m s
    popped = record {
      size = w.size;
      only = w.only;
      listed = λ k i. w.listed k (in_left (n ∷ []) i);
      due = λ p i. next on i;
      closed = λ k e. elim (w.closed k e) [
        | inl i ↦ elim (in_either s _ i) [ inl j ↦ inl j | inr j ↦ inr (λ p x. inr (rw (in_one j) x)) ]
        | inr f ↦ inr (λ p x. elim (f p x) [ inl e ↦ inl e | inr i ↦ elim i [ ] ])
      ];
      root = elim w.root [ inl e ↦ inl e | inr i ↦ elim i [ ] ];
    }

    pub top_row : (place_numbered n).row < length rows
    top_row = (reached_ok rows ok on).0

  pub ended : (m : List Bool) → WalkInvariant rows [] m [] → MarksReached rows m
  ended m w = marks_reached rows ok m w.only (λ p r. all r)
    where
      all : {p : Place} → Reached rows p → get_or m (number_of p) false ≡ true
      all last = elim w.root [ inl e ↦ e | inr i ↦ elim i [ ] ]
      all (next {p = q} {q = p} r i) = elim (w.closed (number_of q) (all r)) [
        | inl j ↦ elim j [ ]
        | inr f ↦ elim (f p (subst (λ (z : Place). In p (leads_of rows z)) (sym (place_back q (within rows ok r).row)) i)) [ inl e ↦ e | inr j ↦ elim j [ ] ]
      ]

-- the places that are due, by the row that leads to them, which is read at k
module _ (rows : List Row) (p : Place) (m : List Bool) (s : List ℕ) (h : p.row < length rows) (k : ℕ) (e : k ≡ p.row) (w : WalkInvariant rows (leads_of rows p) m s) where
  due_by : (r : Row) → get_or rows k False ≡ r → WalkInvariant rows (leads r p.plus p.level) m s
  due_by r q = grind (arith, common_steps, nat_tests)

  pub due_none : (get_or rows k False ≡ False) ⊎ ((get_or rows k False ≡ True) ⊎ ((x : ℕ) × (get_or rows k False ≡ Letter x))) → WalkInvariant rows [] m s
  due_none v1 = grind (arith, common_steps, nat_tests)

  pub due_not : (c : ℕ) → get_or rows k False ≡ Not c → WalkInvariant rows (record { row = c; plus = not p.plus; level = p.level } ∷ []) m s
  due_not c q = due_by (Not c) q

  pub due_two : (c d : ℕ) → (get_or rows k False ≡ And c d) ⊎ (get_or rows k False ≡ Or c d) → WalkInvariant rows (record { row = c; plus = p.plus; level = p.level } ∷ (record { row = d; plus = p.plus; level = p.level } ∷ [])) m s
  due_two v1 v2 v3 = grind (arith, common_steps, nat_tests)

  one_on : (c : ℕ) → WalkInvariant rows (record { row = c; plus = p.plus; level = suc p.level } ∷ []) m s → WalkInvariant rows (record { row = c; plus = p.plus; level = p.level + 1 } ∷ []) m s
  one_on c v = let z : suc p.level ≡ p.level + 1 = omega arith in subst (λ (l : ℕ). WalkInvariant rows (record { row = c; plus = p.plus; level = l } ∷ []) m s) z v

  pub due_modal : (c : ℕ) → (get_or rows k False ≡ Box c) ⊎ (get_or rows k False ≡ Diamond c) → WalkInvariant rows (record { row = c; plus = p.plus; level = p.level + 1 } ∷ []) m s
  due_modal c (inl q) = one_on c (due_by (Box c) q)
  due_modal c (inr q) = one_on c (due_by (Diamond c) q)

-- a visit as the code makes it
pub visits : (rows : List Row) → Lawful rows → (p : Place) (ps : List Place) (m m' : List Bool) (s s' : List ℕ) → m' ≡ set m (number_of p) true → s' ≡ cond (get_or m (number_of p) false) s (s ++ (number_of p ∷ [])) → WalkInvariant rows (p ∷ ps) m s → WalkInvariant rows ps m' s'
visits rows ok p ps m m' s s' a b w = rw (a, b) (visited rows ok p ps m s w)

pub begun_by : (rows : List Row) (s : List ℕ) → s ≡ [] → WalkInvariant rows (last_of rows ∷ []) (replicate 1024 false) s
begun_by rows s e = rw e (begun rows)

pub ended_by : (rows : List Row) → Lawful rows → (m : List Bool) (s : List ℕ) → s ≡ [] → WalkInvariant rows [] m s → MarksReached rows m
ended_by rows ok m s e w = ended rows ok m (rw e at w)

-- a turn of the walk begins
module _ (rows : List Row) (ok : Lawful rows) (n k : ℕ) (m : List Bool) (t s : List ℕ) (e : t ≡ s ++ (n ∷ [])) (q : k ≡ n) (w : WalkInvariant rows [] m t) where
  at_top : WalkInvariant rows [] m (s ++ (k ∷ []))
  at_top = rw (q, ← e) w

  pub turn_small : k < 1024
  turn_small = elim (cases_lt k 1024) [ inl h ↦ h | inr h ↦ absurd (both_ways _ (get_or_past m k false (omega (arith, w.size))) (at_top.listed k (in_right s here))) ]

  pub turn_row : (p : Place) → p ≡ place_numbered k → p.row < length rows
  turn_row p z = subst (λ (x : Place). x.row < length rows) (sym z) (top_row rows ok k m s at_top)

  pub turn_due : (p : Place) → p ≡ place_numbered k → WalkInvariant rows (leads_of rows p) m s
  turn_due p z = subst (λ (x : Place). WalkInvariant rows (leads_of rows x) m s) (sym z) (popped rows ok k m s at_top)
