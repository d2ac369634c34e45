-- Lawful rules row by row: what a row's formula, depth and literal are in terms of its children's, and that no place is too deep.
use Rattle.std.proofs.lemmas.Grind.{common_steps}
use Rattle.std.proofs.lemmas.Bool.Decides.{nat_tests}
use Rattle.std.proofs.Common.{◌≡◌, ℕ, zero, suc, ◌+◌, ◌-◌, ◌<◌, ◌≤◌, max, Bool, true, not, ◌&&◌, leb, List, [], ◌∷◌, ◌++◌, length, get_or, take, sym, refl, ap, ◌∙◌, ap₂, append_assoc, add-zero, zero-add, arith, length-append}
use Rattle.std.proofs.lemmas.List.{append-nil, get_or_at, take_at, get_or-take, length-take-le, get_or_push, length_push}
use Rattle.std.proofs.lemmas.Bool.{and_parts, leb-true}
use Rattle.modal.specs.Rows.{children_earlier, letter_in_range, row_fits, all_fit}
use Rattle.modal.proofs.Built.{get_or_built, some_rows, few_rows, placed, form_at, length_built}
use Rattle.clausal.specs.Places.{Reached, last, leads, literal_of, literals_of, next, constant}
use Rattle.clausal.specs.declared.places.Place.{Place}
use Rattle.atoms.specs.declared.clauses.Literal.{Literal}
use Rattle.lists.specs.Lists.{In, here, there}
use Rattle.modal.specs.Rows.{built, depth_of, formula_at, form_of, forms, lawful, row_depths}
use Rattle.modal.specs.declared.row.Row.{Row}
use Rattle.modal.specs.declared.row.Row.TheVariants.{And, Box, Diamond, False, Letter, Not, Or, True}

-- the value of a row is made from those of the rows before it
module _ {X : Type 0} (f : List X → Row → X) where
  built_grows : (xs : List X) (rows : List Row) → (ys : List X) × (built f xs rows ≡ xs ++ ys)
  built_grows xs [] = ([], sym (append-nil xs))
  built_grows xs (r ∷ rs) = let (ys, e) = built_grows (xs ++ (f xs r ∷ [])) rs in ((f xs r ∷ []) ++ ys, e ∙ append_assoc xs (f xs r ∷ []) ys)

  built_past : (xs : List X) (rows : List Row) (k : ℕ) (d : X) (z : Row) → k < length rows → get_or (built f xs rows) (length xs + k) d ≡ f (take (length xs + k) (built f xs rows)) (get_or rows k z)
  built_past xs [] k d z h = absurd (omega arith)
  built_past xs (r ∷ rs) zero d z h = let (ys, e) = built_grows (xs ++ (f xs r ∷ [])) rs in
      let q : built f (xs ++ (f xs r ∷ [])) rs ≡ xs ++ (f xs r ∷ ys) = e ∙ append_assoc xs (f xs r ∷ []) ys in
      rw (q, add-zero) (get_or_at xs (f xs r) ys d (length xs) refl ∙ ap (λ t. f t r) (sym (take_at xs (f xs r ∷ ys) (length xs) refl)))
  built_past xs (r ∷ rs) (suc k) d z h = let e : length (xs ++ (f xs r ∷ [])) + k ≡ length xs + suc k = simp length-append (omega arith) in
      rw e at (built_past (xs ++ (f xs r ∷ [])) rs k d z (omega arith))

  built_at : (rows : List Row) (k : ℕ) (d : X) (z : Row) → k < length rows → get_or (built f [] rows) k d ≡ f (take k (built f [] rows)) (get_or rows k z)
  built_at rows k d z h = rw (zero-add k) at (built_past [] rows k d z h)

-- what a lawful rule keeps, row by row
abbrev pub RowOk : ℕ → Row → Type 0
RowOk k False = Unit {0}
RowOk k True = Unit {0}
RowOk k (Letter a) = a < 15
RowOk k (Not c) = c < k
RowOk k (And c e) = (c < k) × (e < k)
RowOk k (Or c e) = (c < k) × (e < k)
RowOk k (Box c) = c < k
RowOk k (Diamond c) = c < k

pub record Lawful (rows : List Row) : Type 0 where
  pub is : lawful rows ≡ true
  pub nonempty : 0 < length rows
  pub few : length rows ≤ 64
  pub ordered : (k : ℕ) → k < length rows → RowOk k (get_or rows k False)
  pub shallow : (k : ℕ) → k < length rows → get_or (row_depths rows) k 0 ≤ 7

row_ok : (k : ℕ) (r : Row) → children_earlier k r ≡ true → letter_in_range r ≡ true → RowOk k r
row_ok v1 v2 v3 v4 = grind (arith, common_steps, nat_tests)

depths_fit : (ds : List ℕ) (rs : List Row) → all_fit ds rs ≡ true → (k : ℕ) → k < length rs → get_or (built depth_of ds rs) (length ds + k) 0 ≤ 7
depths_fit ds [] h k l = absurd (omega arith)
depths_fit ds (r ∷ rs) h zero l =
    let d : depth_of ds r ≤ 7 = leb-true (depth_of ds r) 7 (and_parts _ (leb (depth_of ds r) 7) (and_parts (row_fits ds r) _ h).0).1 in
    let e : get_or (built depth_of (ds ++ depth_of ds r ∷ []) rs) (length ds) 0 ≡ depth_of ds r = get_or_built depth_of (ds ++ depth_of ds r ∷ []) rs (length ds) 0 (omega (arith, length_push ds (depth_of ds r))) ∙ get_or_push ds (depth_of ds r) 0 (length ds) refl in
    rw (add-zero, e) d
depths_fit ds (r ∷ rs) h (suc k) l =
    let e : length (ds ++ depth_of ds r ∷ []) + k ≡ length ds + suc k = omega (arith, length_push ds (depth_of ds r)) in
    rw e at (depths_fit (ds ++ depth_of ds r ∷ []) rs (and_parts (row_fits ds r) _ h).1 k (omega arith))

pub lawful_rows : (rows : List Row) → lawful rows ≡ true → Lawful rows
lawful_rows rows h = record {
  is = h;
  nonempty = some_rows rows h;
  few = few_rows rows h;
  ordered = λ k l. (let p = placed rows h k l in row_ok k (get_or rows k False) p.children p.letters);
  shallow = λ k l. rw (zero-add k) at (depths_fit [] rows (and_parts (leb 1 (length rows) && leb (length rows) 64) _ h).1 k l);
}

-- a row leads to earlier rows, of a depth that counts the level
pub lead_ok : (rows : List Row) (k : ℕ) (r : Row) (s : Bool) (l : ℕ) {q : Place} → RowOk k r → In q (leads r s l) → (q.row < k) × (get_or (row_depths rows) q.row 0 + q.level ≤ depth_of (row_depths rows) r + l)
lead_ok rows k False s l o i = elim i [ ]
lead_ok rows k True s l o i = elim i [ ]
lead_ok rows k (Letter a) s l o i = elim i [ ]
lead_ok rows k (Not c) s l o here = (o, omega arith)
lead_ok rows k (Not c) s l o (there i) = elim i [ ]
lead_ok rows k (And c e) s l o here = (o.0, omega arith)
lead_ok rows k (And c e) s l o (there here) = (o.1, omega arith)
lead_ok rows k (And c e) s l o (there (there i)) = elim i [ ]
lead_ok rows k (Or c e) s l o here = (o.0, omega arith)
lead_ok rows k (Or c e) s l o (there here) = (o.1, omega arith)
lead_ok rows k (Or c e) s l o (there (there i)) = elim i [ ]
lead_ok rows k (Box c) s l o here = (o, omega arith)
lead_ok rows k (Box c) s l o (there i) = elim i [ ]
lead_ok rows k (Diamond c) s l o here = (o, omega arith)
lead_ok rows k (Diamond c) s l o (there i) = elim i [ ]

module _ (rows : List Row) (ok : Lawful rows) where
  pub form_is : (k : ℕ) → k < length rows → formula_at (forms rows) k ≡ form_of (forms rows) (get_or rows k False)
  form_is k h = form_at rows ok.is k h

  depth_is : (k : ℕ) → k < length rows → get_or (row_depths rows) k 0 ≡ depth_of (row_depths rows) (get_or rows k False)
  depth_is k h = built_at depth_of rows k 0 False h ∙ go (get_or rows k False) (ok.ordered k h)
    where
      go : (r : Row) → RowOk k r → depth_of (take k (row_depths rows)) r ≡ depth_of (row_depths rows) r
      go False o = refl
      go True o = refl
      go (Letter a) o = refl
      go (Not c) o = get_or-take k (row_depths rows) c 0 o
      go (And c e) o = ap₂ max (get_or-take k (row_depths rows) c 0 o.0) (get_or-take k (row_depths rows) e 0 o.1)
      go (Or c e) o = ap₂ max (get_or-take k (row_depths rows) c 0 o.0) (get_or-take k (row_depths rows) e 0 o.1)
      go (Box c) o = ap (λ n. n + 1) (get_or-take k (row_depths rows) c 0 o)
      go (Diamond c) o = ap (λ n. n + 1) (get_or-take k (row_depths rows) c 0 o)

  pub literal_is : (nm : ℕ → Bool → ℕ) (d : Bool → Literal) (k : ℕ) (s : Bool) → k < length rows → get_or (literals_of nm rows) k d s ≡ literal_of nm (literals_of nm rows) k (get_or rows k False) s
  literal_is nm d k s h = ap (λ g. g s) (built_at (λ ls. literal_of nm ls (length ls)) rows k d False h) ∙ (ap (λ n. literal_of nm (take k (literals_of nm rows)) n (get_or rows k False) s) (length-take-le k (literals_of nm rows) (omega (arith, length_built (λ ls. literal_of nm ls (length ls)) [] rows))) ∙ go (get_or rows k False) (ok.ordered k h))
    where
      go : (r : Row) → RowOk k r → literal_of nm (take k (literals_of nm rows)) k r s ≡ literal_of nm (literals_of nm rows) k r s
      go False o = refl
      go True o = refl
      go (Letter a) o = refl
      go (Not c) o = ap (λ g. g (not s)) (get_or-take k (literals_of nm rows) c constant o)
      go (And c e) o = refl
      go (Or c e) o = refl
      go (Box c) o = refl
      go (Diamond c) o = refl

  -- a reached place is one of the rule's rows, and no deeper than the levels go
  pub reached_ok : {p : Place} → Reached rows p → (p.row < length rows) × (get_or (row_depths rows) p.row 0 + p.level ≤ 7)
  reached_ok last = let h : length rows - 1 < length rows = omega (arith, ok.nonempty) in (h, omega (arith, ok.shallow (length rows - 1) h))
  reached_ok (next {p = p} h i) = let (a, b) = reached_ok h in
      let (c, d) = lead_ok rows p.row (get_or rows p.row False) p.plus p.level (ok.ordered p.row a) i in
      let e = depth_is p.row a in
      (omega arith, omega arith)
