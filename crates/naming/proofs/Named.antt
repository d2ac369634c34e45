-- The names that rules take together, in order, are a naming of the rules.
use Rattle.naming.proofs.OwnNames.{names_own, names_once, names_length, place_in, handle_in}
use Rattle.std.proofs.Common.{◌≡◌, ℕ, zero, suc, ◌+◌, ◌<◌, ◌≤◌, true, ◌⊎◌, List, [], ◌∷◌, ◌++◌, length, get_or, sym, refl, ap, ◌∙◌, subst, ap₂, inl, inr, append_assoc, add-zero, zero-add, arith, length-append}
use Rattle.std.proofs.lemmas.List.{append-nil, get_or_past}
use Rattle.std.proofs.lemmas.Bool.{and_parts, cases_lt}
use Rattle.clausal.proofs.Rows.{lawful_rows}
use Rattle.clausal.specs.Clausal.{Naming, Proper}
use Rattle.clausal.specs.Counting.{names_of}
use Rattle.clausal.specs.States.{State, rule_at}
use Rattle.clausal.specs.declared.names.Name.{Name}
use Rattle.clausal.specs.declared.names.Name.TheVariants.{Free as free, Handle as handle, Place as place}
use Rattle.naming.specs.Names.{names_for, names_from}
use Rattle.lists.proofs.Members.{every_in, get_or_in, in_either, in_left, in_right}
use Rattle.lists.proofs.Onces.{once_append}
use Rattle.lists.specs.Lists.{In, Once, every}
use Rattle.modal.specs.Rows.{lawful}
use Rattle.modal.specs.declared.row.Row.{Row}

abbrev pub owner : Name → ℕ
owner free = 0
owner (place r _ _) = r
owner (handle r) = r

pub names_from_own : (r : ℕ) (rs : List (List Row)) (l : ℕ) {x : Name} → In x (names_from r rs l) → (i : ℕ) × (i < length rs) × In x (names_for (r + i) (get_or rs i []) l)
names_from_own r [] l i = elim i [ ]
names_from_own r (rows ∷ rs) l {x} i = elim (in_either (names_for r rows l) (names_from (suc r) rs l) i) [
  | inl j ↦ (0, omega arith, subst (λ n. In x (names_for n rows l)) (sym (add-zero r)) j)
  | inr j ↦ (let (k, h, m) = names_from_own (suc r) rs l j in let e : suc r + k ≡ r + suc k = omega arith in (suc k, omega arith, subst (λ n. In x (names_for n (get_or rs k []) l)) e m))
]

pub names_from_in : (r : ℕ) (rs : List (List Row)) (l i : ℕ) {x : Name} → i < length rs → In x (names_for (r + i) (get_or rs i []) l) → In x (names_from r rs l)
names_from_in r [] l i h m = absurd (omega arith)
names_from_in r (rows ∷ rs) l zero {x} h m = in_left (names_from (suc r) rs l) (subst (λ n. In x (names_for n rows l)) (add-zero r) m)
names_from_in r (rows ∷ rs) l (suc i) {x} h m = let e : r + suc i ≡ suc r + i = omega arith in in_right (names_for r rows l) (names_from_in (suc r) rs l i (omega arith) (subst (λ n. In x (names_for n (get_or rs i []) l)) e m))

owner_own : (r : ℕ) (rows : List Row) (l : ℕ) {x : Name} → In x (names_for r rows l) → owner x ≡ r
owner_own r rows l i = elim (names_own r rows l i) [ inl (_, _, _, _, e) ↦ ap owner e | inr (_, e) ↦ ap owner e ]

pub names_from_once : (r : ℕ) (rs : List (List Row)) (l : ℕ) → Once (names_from r rs l)
names_from_once r [] l = tt
names_from_once r (rows ∷ rs) l = once_append _ _ (names_once r rows l) (names_from_once (suc r) rs l) (λ x i j. let (k, _, m) = names_from_own (suc r) rs l j in let a = owner_own r rows l i in let b = owner_own (suc r + k) (get_or rs k []) l m in omega arith)

pub names_from_push : (r : ℕ) (rs : List (List Row)) (rows : List Row) (l : ℕ) → names_from r (rs ++ (rows ∷ [])) l ≡ names_from r rs l ++ names_for (r + length rs) rows l
names_from_push r [] rows l = append-nil (names_for r rows l) ∙ ap (λ n. names_for n rows l) (omega arith)
names_from_push r (x ∷ rs) rows l = ap (λ z. names_for r x l ++ z) (names_from_push (suc r) rs rows l ∙ ap (λ n. names_from (suc r) rs l ++ names_for n rows l) (omega arith)) ∙ sym (append_assoc (names_for r x l) (names_from (suc r) rs l) (names_for (r + suc (length rs)) rows l))

pub once_index : (xs : List Name) → Once xs → (i j : ℕ) → get_or xs i free ≡ get_or xs j free → (get_or xs i free ≡ free) ⊎ (i ≡ j)
once_index [] o i j e = inl refl
once_index (x ∷ xs) o zero zero e = inr refl
once_index (x ∷ xs) o zero (suc j) e = elim (cases_lt j (length xs)) [ inl h ↦ absurd (o.0 (subst (λ z. In z xs) (sym e) (get_or_in xs j free h))) | inr h ↦ inl (e ∙ get_or_past xs j free h) ]
once_index (x ∷ xs) o (suc i) zero e = elim (cases_lt i (length xs)) [ inl h ↦ absurd (o.0 (subst (λ z. In z xs) e (get_or_in xs i free h))) | inr h ↦ inl (get_or_past xs i free h) ]
once_index (x ∷ xs) o (suc i) (suc j) e = elim (once_index xs o.1 i j e) [ inl q ↦ inl q | inr q ↦ inr (ap suc q) ]

-- the rules take as many names together as they are counted to take
pub names_from_length : (r : ℕ) (rs : List (List Row)) → every lawful rs ≡ true → (l : ℕ) → length (names_from r rs l) ≡ names_of rs l
names_from_length r [] ok l = refl
names_from_length r (rows ∷ rs) ok l =
    let (a, b) = and_parts (lawful rows) (every lawful rs) ok in
    length-append (names_for r rows l) (names_from (suc r) rs l) ∙ ap₂ (λ m n. m + n) (names_length r rows (lawful_rows rows a) l) (names_from_length (suc r) rs b l)

-- names taken in order are a naming of the rules
module _ (st : State) (few : length st.rules ≤ 16) (ok : every lawful st.rules ≡ true) (room : (l : ℕ) → length (st.names l) ≤ 48) (named : (l : ℕ) → st.names l ≡ names_from 0 st.rules l) where
  rule_lawful : (r : ℕ) → r < length st.rules → lawful (rule_at st r) ≡ true
  rule_lawful r h = every_in lawful (get_or_in st.rules r [] h) ok

  expected : (l : ℕ) {x : Name} → In x (st.names l) → (r : ℕ) × (r < length st.rules) × In x (names_for r (rule_at st r) l)
  expected l {x} i = let (r, h, m) = names_from_own 0 st.rules l (subst (In x) (named l) i) in (r, h, subst (λ n. In x (names_for n (rule_at st r) l)) (zero-add r) m)

  taken : (l r : ℕ) {x : Name} → r < length st.rules → In x (names_for r (rule_at st r) l) → In x (st.names l)
  taken l r {x} h m = subst (In x) (sym (named l)) (names_from_in 0 st.rules l r h (subst (λ n. In x (names_for n (rule_at st r) l)) (sym (zero-add r)) m))

  is_proper : (l : ℕ) (x : Name) → In x (st.names l) → Proper st l x
  is_proper l x i = let (r, h, m) = expected l i in elim (names_own r (rule_at st r) l m) [
    | inl (k, s, y, t, e) ↦ subst (Proper st l) (sym e) (h, y, t)
    | inr (z, e) ↦ subst (Proper st l) (sym e) (h, z)
  ]

  pub in_order_naming : Naming st
  in_order_naming = record {
    held = few;
    all_lawful = rule_lawful;
    room = room;
    proper = λ l i. elim (cases_lt i (length (st.names l))) [ inl h ↦ is_proper l _ (get_or_in (st.names l) i free h) | inr h ↦ subst (Proper st l) (sym (get_or_past (st.names l) i free h)) tt ];
    named = λ r p h x t. taken p.level r h (place_in r (rule_at st r) p.level (lawful_rows _ (rule_lawful r h)) p.row p.plus x t);
    handled = λ r h. taken 0 r h (handle_in r (rule_at st r) 0 refl);
    once = λ l. once_index (st.names l) (subst Once (sym (named l)) (names_from_once 0 st.rules l));
  }
