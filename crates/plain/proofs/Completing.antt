-- Why no valuation is missed.
use Rattle.std.proofs.Common.{◌≡◌, ℕ, ◌+◌, ◌^◌, ◌<◌, ◌≤◌, true, false, ◌&&◌, ◌||◌, List, length, get_or, sym, ◌∙◌, arith}
use Rattle.std.proofs.lemmas.Bool.{both_ways, false_from_ne_true}
use lib.Bits.{bit_or, and_le_l, or_lt, or_disjoint}
use Rattle.std.proofs.lemmas.Bool.Decides.{nat_tests}
use Rattle.atoms.specs.Assuming.{Apart, is_free}
use Rattle.atoms.specs.Bits.{bit}
use Rattle.atoms.specs.Sets.{has}
use Rattle.atoms.specs.Clauses.{Valuation, makes, makes_all}
use Rattle.atoms.specs.declared.assumptions.Assumptions.{Assumptions}
use Rattle.atoms.specs.declared.clauses.Entry.{Entry}
use Rattle.atoms.specs.declared.sets.AtomSet.{AtomSet}
use Rattle.atoms.proofs.Members.{has_high, has_same, has_nothing, has_and, has_or}
use Rattle.atoms.specs.Sets.{set_below}
use Rattle.atoms.proofs.Below.{set_has, set_small}
use Rattle.plain.proofs.Counting.{part_le}
use Rattle.atoms.proofs.Making.{agree_all}
use Rattle.atoms.proofs.Obeying.{Follows}
use Rattle.atoms.proofs.Restricting.{restricted, restricted_all}
use Rattle.std.proofs.lemmas.List.Folds.{list_all_at}
use Rattle.plain.specs.Counts.{Part, Tried, First}

-- the valuation tried for a part u of the free atoms: what must be in, and u
abbrev pub candidate : Assumptions → ℕ → Valuation
candidate w u i = has w.within i || bit u i

-- the tried valuations of the parts that pass the test all fail
abbrev pub Fail : List Entry → Assumptions → ℕ → (ℕ → Type 0) → Type 0
Fail es w free p = (u : ℕ) → u < 2 ^ 64 → Part u free → p u → makes_all (candidate w u) es ≡ true → ⊥

-- what is tried for the free atoms of a valuation
candidate_restricted : (es : List Entry) (w : Assumptions) (free : ℕ) (v : Valuation) → ((i : ℕ) → bit free i ≡ is_free es w i)
    → (i : ℕ) → i < 64 → candidate w (set_below 64 (λ j. v j && bit free j)) i ≡ restricted es w v i
candidate_restricted es w free v e i l = grind (arith, nat_tests, e i, set_has 64 (λ j. v j && bit free j) i)

-- the free atoms of a valuation are a part of the free atoms
gathered_part : (free : ℕ) (v : Valuation) → Part (set_below 64 (λ j. v j && bit free j)) free
gathered_part free v i h = grind (arith, nat_tests, set_has 64 (λ j. v j && bit free j) i, has_high 64 (set_below 64 (λ j. v j && bit free j)) i (set_small 64 (λ j. v j && bit free j)))

pub complete : (es : List Entry) (w : Assumptions) (free : ℕ) → ((i : ℕ) → bit free i ≡ is_free es w i) → Fail es w free (λ u. Unit {0}) → (v : Valuation) → Follows v w → makes_all v es ≡ true → ⊥
complete es w free e fail v f m =
    fail (set_below 64 (λ j. v j && bit free j)) (set_small 64 (λ j. v j && bit free j)) (gathered_part free v) tt
    (agree_all es (candidate w (set_below 64 (λ j. v j && bit free j))) (restricted es w v) (λ i _ l. candidate_restricted es w free v e i l) (restricted_all es w v f m))

-- the valuation that the code tries follows what is assumed
pub counted_follows : (es : List Entry) (w : Assumptions) (free u : ℕ) (s : AtomSet) → Apart w
    → ((i : ℕ) → bit free i ≡ is_free es w i)
    → Part u free → ((i : ℕ) → has s i ≡ candidate w u i) → Follows (has s) w
counted_follows es w free u s apart e p q = record { ins = λ i h. grind (arith, nat_tests, q i); outs = λ i h. grind (arith, nat_tests, q i, apart i, e i, p i) }

-- one part more has failed: v, whose valuation makes the entry at i false
pub failed_here : (es : List Entry) (w : Assumptions) (u : ℕ) (s : AtomSet) (i : ℕ) (d : Entry) → i < length es → ((j : ℕ) → has s j ≡ candidate w u j)
    → false ≡ makes (has s) (get_or es i d).clause → makes_all (candidate w u) es ≡ true → ⊥
failed_here es w u s i d l q e m =
    both_ways _ (list_all_at (λ x. makes (has s) x.clause) es i d l (sym e)) (agree_all es (has s) (candidate w u) (λ j _ _. q j) m)

pub fail_more : (es : List Entry) (w : Assumptions) (free v m : ℕ) → Fail es w free (λ u. u < v) → (makes_all (candidate w v) es ≡ true → ⊥)
    → ((u : ℕ) → u < 2 ^ 64 → Part u free → v < u → m ≤ u) → Fail es w free (λ u. u < m)
fail_more es w free v m f here least u lu p h k = grind (arith, f u lu p, here, least u lu p, k)

pub fail_all : (es : List Entry) (w : Assumptions) (free v : ℕ) → v ≡ free → Fail es w free (λ u. u < v) → (makes_all (candidate w v) es ≡ true → ⊥) → Fail es w free (λ u. Unit {0})
fail_all es w free v e f here u lu p _ k = grind (arith, f u lu p, here, part_le 64 u free lu p, k)

-- what must be in and the free atoms have none in common
disjoint : (es : List Entry) (w : Assumptions) (free u : ℕ) → w.within.bits < 2 ^ 64 → ((i : ℕ) → bit free i ≡ is_free es w i) → Part u free
    → bit_or w.within.bits u ≡ w.within.bits + u
disjoint es w free u lw e p =
    or_disjoint w.within.bits u (has_nothing 64 _ (let l = and_le_l w.within.bits u in omega arith) (λ i. has_and w.within.bits u i ∙ grind (arith, nat_tests, e i, p i)))

-- the first part that does not fail gives the first valuation
pub first : (es : List Entry) (w : Assumptions) (free v s : ℕ) → w.within.bits < 2 ^ 64 → s < 2 ^ 64 → v < 2 ^ 64
    → ((i : ℕ) → bit free i ≡ is_free es w i) → Part v free → ((i : ℕ) → bit s i ≡ candidate w v i) → makes_all (bit s) es ≡ true → Fail es w free (λ u. u < v) → First es w s
first es w free v s lw ls lv e p q m fail = record {
  tried = record { small = ls; others = λ a h. grind (arith, nat_tests, q a, e a, p a) };
  made = m;
  before = λ u l t. false_from_ne_true (makes_all (bit u) es) (λ k. fail (part u) (set_small 64 (λ j. bit u j && bit free j)) (gathered_part free (bit u)) (less u l t)
      (agree_all es (candidate w (part u)) (bit u) (λ i _ _. sym (again u t i)) k));
}
  where
    part : ℕ → ℕ
    part u = set_below 64 (λ j. bit u j && bit free j)

    -- a tried valuation is made of what must be in and its own free atoms
    again : (u : ℕ) → Tried es w u → (i : ℕ) → bit u i ≡ candidate w (part u) i
    again u t i = grind (
      arith,
      nat_tests,
      t.others i,
      candidate_restricted es w free (bit u) e i,
      has_high 64 u i t.small,
      has_high 64 w.within.bits i lw,
      has_high 64 (part u) i (set_small 64 (λ j. bit u j && bit free j)),
    )

    sum : (u n : ℕ) → u < 2 ^ 64 → n < 2 ^ 64 → Part n free → ((i : ℕ) → bit u i ≡ candidate w n i) → u ≡ w.within.bits + n
    sum u n lu ln pn h =
        has_same 64 u (bit_or w.within.bits n) lu (or_lt 64 w.within.bits n lw ln) (λ i. h i ∙ sym (has_or w.within.bits n i)) ∙ disjoint es w free n lw e pn

    less : (u : ℕ) → u < s → Tried es w u → part u < v
    less u l t =
        let a = sum u (part u) t.small (set_small 64 (λ j. bit u j && bit free j)) (gathered_part free (bit u)) (again u t) in
        let b = sum s v ls lv p q in
        omega arith
