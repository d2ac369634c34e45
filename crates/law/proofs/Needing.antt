-- Learnt entries that the entries before them did not make superfluous.
use Rattle.std.proofs.Common.{◌≡◌, ℕ, ◌-◌, ◌<◌, ◌≤◌, true, false, List, [], ◌++◌, length, get_or, take, sym, refl, ap, ◌∙◌, subst, inl, inr, arith, length-append}
use lib.Seq.{take-append-le}
use Rattle.std.proofs.lemmas.List.{get_or_append_left, get_or-append_right}
use Rattle.std.proofs.lemmas.Bool.{cases_lt}
use Rattle.lists.specs.Lists.{In}
use Rattle.lists.proofs.Members.{in_kept, get_or_in}
use Rattle.atoms.specs.Clauses.{Valuation, makes, makes_all, is_learnt, learnt}
use Rattle.atoms.specs.declared.clauses.Entry.{Entry}
use Rattle.law.specs.Verdicts.{LearntNeeded}

no_learnt : (es : List Entry) → learnt es ≡ [] → (i : ℕ) (e : Entry) → i < length es → get_or es i e ≡ e → is_learnt e ≡ true → ⊥
no_learnt es z i e h q le = elim (subst (In e) z (in_kept is_learnt (subst (λ x. In x es) q (get_or_in es i e h)) le)) [ ]

-- nothing learnt, nothing to show
pub needed_definitions : (es : List Entry) → learnt es ≡ [] → LearntNeeded es
needed_definitions es z i e h q le = absurd (no_learnt es z i e h q le)

-- more entries, needed themselves
pub needed_append : (es new : List Entry) → LearntNeeded es → ((i : ℕ) (e : Entry) → length es ≤ i → i < length (es ++ new) → get_or (es ++ new) i e ≡ e → is_learnt e ≡ true → (v : Valuation) × (makes_all v (take i (es ++ new)) ≡ true) × (makes v e.clause ≡ false)) → LearntNeeded (es ++ new)
needed_append es new p k i e h q le = elim (cases_lt i (length es)) [
  | inl c ↦ (let (v, m, f) = p i e c (sym (get_or_append_left es new e i c) ∙ q) le in (v, ap (makes_all v) (take-append-le i es new (omega arith)) ∙ m, f))
  | inr c ↦ k i e c h q le
]

-- definitions more
pub needed_more : (es new : List Entry) → LearntNeeded es → learnt new ≡ [] → LearntNeeded (es ++ new)
needed_more es new p z = needed_append es new p (λ i e b h q le. absurd (no_learnt new z (i - length es) e (omega (arith, length-append es new)) (sym (get_or-append_right es new (length es) i e refl b) ∙ q) le))
