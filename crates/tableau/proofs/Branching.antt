-- What the first claim of a branch comes down to may stand in its place.
use Rattle.std.proofs.Common.{◌≡◌, ℕ, ◌≤◌, Bool, true, false, cond, not, List, [], ◌∷◌, sym, refl, ◌∙◌, inl, inr, arith}
use Rattle.std.proofs.lemmas.Bool.{and_parts, and_from, or_cases, or_left, or_right, true≢false}
use Rattle.lists.specs.Lists.{every, some, In}
use Rattle.lists.proofs.Members.{every_in}
use Rattle.modal.specs.Kripke.{World, world}
use Rattle.tableau.specs.Branches.{Branch, Fulfils, OpenBranch, DecidesBranch, weights, weights_beyond}
use Rattle.tableau.specs.Claims.{SignedFormula, claimed, holds, agrees, opposite, step_holds, ComesTo}
use Rattle.tableau.specs.declared.claims.Claim.{Claim}
use Rattle.tableau.specs.declared.claims.SignedLetter.{SignedLetter}
use Rattle.tableau.specs.declared.claims.Step.{Step}
use Rattle.tableau.specs.declared.claims.Step.TheVariants as step

-- a world of an open branch is as another branch asks
elsewhere : {b c : Branch} (o : OpenBranch b) → Fulfils c o.model.worlds o.number → OpenBranch c
elsewhere o f = record { model = o.model; number = o.number; inside = o.inside; fulfils = f }

-- two branches that ask the same of every world
swapped : {b b' : Branch} {met : Bool} → ((ws : List World) (w : ℕ) → Fulfils b ws w → Fulfils b' ws w) → ((ws : List World) (w : ℕ) → Fulfils b' ws w → Fulfils b ws w) → DecidesBranch b' met → DecidesBranch b met
swapped to from a = ((λ e. let o = a.0 e in elsewhere o (from _ _ o.fulfils)), (λ e o. a.1 e (elsewhere o (to _ _ o.fulfils))))

never : {b : Branch} {met : Bool} → met ≡ false → ((ws : List World) (w : ℕ) → Fulfils b ws w → ⊥) → DecidesBranch b met
never no_world none = ((λ e. absurd (true≢false (sym e ∙ no_world))), (λ e o. none _ _ o.fulfils))

pub lighter_here : (ss : List SignedFormula) → weights ss ≤ weights_beyond ss
lighter_here [] = omega arith
lighter_here (s ∷ ss) = omega (arith, lighter_here ss)

-- a letter is not both true and false
opposed : (l : SignedLetter) (x : World) → agrees l x ≡ true → agrees (opposite l) x ≡ true → ⊥
opposed l x = go l.plus (x.letters l.letter)
  where
    go : (p b : Bool) → cond p b (not b) ≡ true → cond (not p) b (not b) ≡ true → ⊥
    go true true h k = true≢false (sym k)
    go true false h k = true≢false (sym h)
    go false true h k = true≢false (sym h)
    go false false h k = true≢false (sym k)

-- one claim more asks just that more of a world
module _ (ls : List SignedLetter) (es ms : List SignedFormula) where
  abbrev asking : List SignedFormula → Branch
  asking cs = record { claims = cs; letters = ls; everywhere = es; somewhere = ms }

  take : (s : SignedFormula) (cs : List SignedFormula) (ws : List World) (w : ℕ) → Fulfils (asking (s ∷ cs)) ws w → (holds s ws w ≡ true) × Fulfils (asking cs) ws w
  take s cs ws w f = let (h, r) = and_parts (holds s ws w) (every (λ x. holds x ws w) cs) f.claims in (h, record { claims = r; letters = f.letters; everywhere = f.everywhere; somewhere = f.somewhere })

  put : (s : SignedFormula) (cs : List SignedFormula) (ws : List World) (w : ℕ) → holds s ws w ≡ true → Fulfils (asking cs) ws w → Fulfils (asking (s ∷ cs)) ws w
  put s cs ws w h f = record { claims = and_from _ _ h f.claims; letters = f.letters; everywhere = f.everywhere; somewhere = f.somewhere }

module _ (ls : List SignedLetter) (es ms : List SignedFormula) (s : SignedFormula) (cs : List SignedFormula) where
  abbrev here_asked : Branch
  here_asked = asking ls es ms (s ∷ cs)

  abbrev rest : Branch
  rest = asking ls es ms cs

  -- what a step says may be asked in place of the claim
  placed : (t : Step) → ComesTo s t → (b : Branch) (met : Bool) → ((ws : List World) (w : ℕ) → step_holds t ws w ≡ true → Fulfils rest ws w → Fulfils b ws w)
      → ((ws : List World) (w : ℕ) → Fulfils b ws w → (step_holds t ws w ≡ true) × Fulfils rest ws w) → DecidesBranch b met → DecidesBranch here_asked met
  placed t k b met into out = swapped
      (λ ws w f. let (h, r) = take ls es ms s cs ws w f in into ws w (sym (k.same ws w) ∙ h) r)
      (λ ws w f. let (h, r) = out ws w f in put ls es ms s cs ws w (k.same ws w ∙ h) r)

  pub always : (met : Bool) → ComesTo s step.Always → DecidesBranch rest met → DecidesBranch here_asked met
  always met k = placed step.Always k rest met (λ ws w h f. f) (λ ws w f. (refl, f))

  pub same : (met : Bool) (c : Claim) → ComesTo s (step.Same c) → DecidesBranch (asking ls es ms (claimed c ∷ cs)) met → DecidesBranch here_asked met
  same met c k = placed (step.Same c) k (asking ls es ms (claimed c ∷ cs)) met (put ls es ms (claimed c) cs) (take ls es ms (claimed c) cs)

  pub both : (met : Bool) (c d : Claim) → ComesTo s (step.Both c d) → DecidesBranch (asking ls es ms (claimed c ∷ claimed d ∷ cs)) met → DecidesBranch here_asked met
  both met c d k = placed (step.Both c d) k (asking ls es ms (claimed c ∷ claimed d ∷ cs)) met
      (λ ws w h f. let (a, b) = and_parts (holds (claimed c) ws w) (holds (claimed d) ws w) h in put ls es ms (claimed c) (claimed d ∷ cs) ws w a (put ls es ms (claimed d) cs ws w b f))
      (λ ws w f. let (a, r) = take ls es ms (claimed c) (claimed d ∷ cs) ws w f in let (b, q) = take ls es ms (claimed d) cs ws w r in (and_from _ _ a b, q))

  pub letter : (met : Bool) (l : SignedLetter) → ComesTo s (step.Letter l) → DecidesBranch (asking (l ∷ ls) es ms cs) met → DecidesBranch here_asked met
  letter met l k = placed (step.Letter l) k (asking (l ∷ ls) es ms cs) met
      (λ ws w h f. record { claims = f.claims; letters = and_from _ _ h f.letters; everywhere = f.everywhere; somewhere = f.somewhere })
      (λ ws w f. let (h, r) = and_parts (agrees l (world ws w)) (every (λ x. agrees x (world ws w)) ls) f.letters in (h, record { claims = f.claims; letters = r; everywhere = f.everywhere; somewhere = f.somewhere }))

  pub clash : (met : Bool) (l : SignedLetter) → ComesTo s (step.Letter l) → In (opposite l) ls → met ≡ false → DecidesBranch here_asked met
  clash met l k i e = never e (λ ws w f. let (h, r) = take ls es ms s cs ws w f in opposed l (world ws w) (sym (k.same ws w) ∙ h) (every_in (λ x. agrees x (world ws w)) i r.letters))

  pub everywhere : (met : Bool) (c : Claim) → ComesTo s (step.Everywhere c) → DecidesBranch (asking ls (claimed c ∷ es) ms cs) met → DecidesBranch here_asked met
  everywhere met c k = placed (step.Everywhere c) k (asking ls (claimed c ∷ es) ms cs) met
      (λ ws w h f. record { claims = f.claims; letters = f.letters; everywhere = and_from _ _ h f.everywhere; somewhere = f.somewhere })
      (λ ws w f.
      let (h, r) = and_parts (every (holds (claimed c) ws) (world ws w).successors) (every (λ x. every (holds x ws) (world ws w).successors) es) f.everywhere in
      (h, record { claims = f.claims; letters = f.letters; everywhere = r; somewhere = f.somewhere }))

  pub somewhere : (met : Bool) (c : Claim) → ComesTo s (step.Somewhere c) → DecidesBranch (asking ls es (claimed c ∷ ms) cs) met → DecidesBranch here_asked met
  somewhere met c k = placed (step.Somewhere c) k (asking ls es (claimed c ∷ ms) cs) met
      (λ ws w h f. record { claims = f.claims; letters = f.letters; everywhere = f.everywhere; somewhere = and_from _ _ h f.somewhere })
      (λ ws w f.
      let (h, r) = and_parts (some (holds (claimed c) ws) (world ws w).successors) (every (λ x. some (holds x ws) (world ws w).successors) ms) f.somewhere in
      (h, record { claims = f.claims; letters = f.letters; everywhere = f.everywhere; somewhere = r }))

  module _ (c d : Claim) (k : ComesTo s (step.Either c d)) where
    abbrev one : Branch
    one = asking ls es ms (claimed c ∷ cs)

    abbrev other : Branch
    other = asking ls es ms (claimed d ∷ cs)

    by_one_of : (x : Claim) → ((ws : List World) (w : ℕ) → holds (claimed x) ws w ≡ true → step_holds (step.Either c d) ws w ≡ true) → OpenBranch (asking ls es ms (claimed x ∷ cs)) → OpenBranch here_asked
    by_one_of x side o = let (h, r) = take ls es ms (claimed x) cs _ _ o.fulfils in elsewhere o (put ls es ms s cs _ _ (k.same _ _ ∙ side _ _ h) r)

    pub either_one : (met : Bool) → DecidesBranch one met → met ≡ true → DecidesBranch here_asked met
    either_one met a h = ((λ e. by_one_of c (λ ws w. or_left _ _) (a.0 e)), (λ e. absurd (true≢false (sym h ∙ e))))

    pub either_other : (first met : Bool) → DecidesBranch one first → first ≡ false → DecidesBranch other met → DecidesBranch here_asked met
    either_other first met a no_first b = (
      (λ e. by_one_of d (λ ws w. or_right _ _) (b.0 e)),
      (λ e o.
          let (h, r) = take ls es ms s cs _ _ o.fulfils in
          elim (or_cases (holds (claimed c) o.model.worlds o.number) (holds (claimed d) o.model.worlds o.number) (sym (k.same _ _) ∙ h)) [
            | inl x ↦ a.1 no_first (elsewhere o (put ls es ms (claimed c) cs _ _ x r))
            | inr x ↦ b.1 e (elsewhere o (put ls es ms (claimed d) cs _ _ x r))
          ]),
    )
