-- The rules that a question asks, by their numbers, and the lowest of these that is no rule's.
use Rattle.std.proofs.Common.{◌≡◌, ℕ, ◌<◌, ◌≤◌, Bool, true, cond, min, ◌⊎◌, inl, inr, List, [], ◌∷◌, length, Some, None, Option, sym, refl, ap, ◌∙◌, subst, arith}
use Rattle.std.proofs.lemmas.Bool.{cases_lt, le-leb, lt-leb}
use Rattle.std.specs.List.{range_with_len}
use Rattle.lists.specs.Lists.{In, here, there}
use Rattle.lists.proofs.Members.{in_around, in_kept, kept_in}
use Rattle.lists.proofs.Ranges.{in_range, range_in}
use Rattle.atoms.specs.Bits.{bit}
use Rattle.law.specs.Runs.{unknown, lower}
use Rattle.naming.specs.Tables.{rules_in}
use Rattle.naming.specs.declared.table.Table.{Table}
use Rattle.session.specs.Assumed.{LowestUnknown}
use Rattle.session.specs.Replies.{numbers_of}

pub asked_bit : (q k : ℕ) → In k (numbers_of q) → (k < 16) × (bit q k ≡ true)
unfolding numbers_of
asked_bit q k i = let (r, b) = kept_in (bit q) (range_with_len 0 16) i in let (_, h) = range_in 0 16 k r in (omega arith, b)

pub bit_asked : (q k : ℕ) → k < 16 → bit q k ≡ true → In k (numbers_of q)
unfolding numbers_of
bit_asked q k h b = in_kept (bit q) (in_range 0 16 k (omega arith) (omega arith)) b

-- the lowest number that no rule has
module _ (n k : ℕ) (ks : List ℕ) where
  abbrev with_first : Bool → Option ℕ
  with_first b = cond b (Some (lower k (unknown n ks))) (unknown n ks)

  known_first : k < n → unknown n (k ∷ ks) ≡ unknown n ks
  known_first h = ap with_first (lt-leb n k h)

  unknown_first : n ≤ k → unknown n (k ∷ ks) ≡ Some (lower k (unknown n ks))
  unknown_first h = ap with_first (le-leb n k h)

pub none_unknown : (n : ℕ) (ks : List ℕ) → ((k : ℕ) → In k ks → k < n) → unknown n ks ≡ None
none_unknown n [] h = refl
none_unknown n (k ∷ ks) h = known_first n k ks (h k here) ∙ none_unknown n ks (λ j i. h j (there i))

abbrev AtLeast : ℕ → Option ℕ → Type 0
AtLeast i None = Unit {0}
AtLeast i (Some j) = i ≤ j

at_least : (n i : ℕ) (ks : List ℕ) → ((j : ℕ) → In j ks → n ≤ j → i ≤ j) → AtLeast i (unknown n ks)
at_least n i [] low = tt
at_least n i (k ∷ ks) low =
    let rest = at_least n i ks (λ j m. low j (there m)) in
    elim (cases_lt k n) [
      | inl l ↦ subst (AtLeast i) (sym (known_first n k ks l)) rest
      | inr l ↦ subst (AtLeast i) (sym (unknown_first n k ks l)) (least (unknown n ks) (low k here l) rest)
    ]
  where
    least : (o : Option ℕ) → i ≤ k → AtLeast i o → i ≤ lower k o
    least None h r = h
    least (Some j) h r = omega arith

lowest_unknown : (n i : ℕ) (ks : List ℕ) → In i ks → n ≤ i → ((j : ℕ) → In j ks → n ≤ j → i ≤ j) → unknown n ks ≡ Some i
lowest_unknown n i [] m h low = elim m [ ]
lowest_unknown n i (k ∷ ks) m h low =
    let rest : In i ks → unknown n ks ≡ Some i = λ x. lowest_unknown n i ks x h (λ j y. low j (there y)) in
    elim (cases_lt k n) [ inl l ↦ known_first n k ks l ∙ past rest l (in_around [] ks k m) | inr l ↦ unknown_first n k ks l ∙ ap Some (least rest l (in_around [] ks k m)) ]
  where
    past : (In i ks → unknown n ks ≡ Some i) → k < n → (k ≡ i) ⊎ In i ks → unknown n ks ≡ Some i
    past rest l (inl e) = absurd (omega arith)
    past rest l (inr x) = rest x

    stays : (o : Option ℕ) → AtLeast i o → lower i o ≡ i
    stays None r = refl
    stays (Some j) r = omega arith

    least : (In i ks → unknown n ks ≡ Some i) → n ≤ k → (k ≡ i) ⊎ In i ks → lower k (unknown n ks) ≡ i
    least rest l (inl e) = ap (λ j. lower j (unknown n ks)) e ∙ stays (unknown n ks) (at_least n i ks (λ j y. low j (there y)))
    least rest l (inr x) = let b = low k here l in ap (lower k) (rest x) ∙ (let z : min k i ≡ i = omega arith in z)

pub unknown_number : (t : Table) (q k : ℕ) → LowestUnknown t q k → unknown (length (rules_in t)) (numbers_of q) ≡ Some k
unknown_number t q k u = lowest_unknown (length (rules_in t)) k (numbers_of q) (bit_asked q k u.small u.asked) u.beyond (λ j m h. elim (cases_lt j k) [ inl l ↦ (let b = u.lowest j l (asked_bit q j m).1 in absurd (omega arith)) | inr l ↦ l ])
