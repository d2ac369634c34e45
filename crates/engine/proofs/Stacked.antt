-- A list of entries when its top is replaced, one is put on top, or the top is taken off.
use Rattle.std.proofs.Common.{◌≡◌, ℕ, zero, suc, ◌-◌, ◌<◌, ◌≤◌, List, [], ◌∷◌, ◌++◌, length, get_or, take, refl, sym, ap, ◌∙◌, subst, arith}
use Rattle.std.proofs.lemmas.List.{get_or-take, get_or_append_left, length-append, length-take-le}
use Rattle.std.proofs.Math.Seq.{get_or-append_seam}

module _ {A : Type 0} where
  -- the entries below the level are the same
  pub below_taken : (fs : List A) (l k : ℕ) (d : A) → k < l → get_or (take l fs) k d ≡ get_or fs k d
  below_taken fs l k d h = get_or-take l fs k d h

  pub length_taken : (fs : List A) (l : ℕ) → l ≤ length fs → length (take l fs) ≡ l
  length_taken fs l h = length-take-le l fs h

  pub top_put : (fs : List A) (l : ℕ) (f d : A) → length fs ≡ l → get_or (fs ++ f ∷ []) l d ≡ f
  top_put fs l f d e = subst (λ (n : ℕ). get_or (fs ++ f ∷ []) n d ≡ f) e (get_or-append_seam fs f [] d)

  pub below_put : (fs : List A) (l k : ℕ) (f d : A) → length fs ≡ l → k < l → get_or (fs ++ f ∷ []) k d ≡ get_or fs k d
  below_put fs l k f d e h = get_or_append_left fs (f ∷ []) d k (omega arith)

  pub length_put : (fs : List A) (l : ℕ) (f : A) → length fs ≡ l → length (fs ++ f ∷ []) ≡ suc l
  length_put fs l f e = let n = length-append fs (f ∷ []) in omega arith

  pub top_replaced : (fs : List A) (l : ℕ) (f d : A) → length fs ≡ suc l → get_or (take l fs ++ f ∷ []) l d ≡ f
  top_replaced fs l f d e = top_put (take l fs) l f d (length_taken fs l (omega arith))

  pub below_replaced : (fs : List A) (l k : ℕ) (f d : A) → length fs ≡ suc l → k < l → get_or (take l fs ++ f ∷ []) k d ≡ get_or fs k d
  below_replaced fs l k f d e h = below_put (take l fs) l k f d (length_taken fs l (omega arith)) h ∙ below_taken fs l k d h

  pub length_replaced : (fs : List A) (l : ℕ) (f : A) → length fs ≡ suc l → length (take l fs ++ f ∷ []) ≡ suc l
  length_replaced fs l f e = length_put (take l fs) l f (length_taken fs l (omega arith))

  -- what is below the top, by the slots
  pub below_slots : (slots : List A) (n l : ℕ) → n ≡ suc l → take (n - 1) slots ≡ take l (take n slots)
  below_slots slots n l e = let less : n - 1 ≡ l = omega arith in ap (λ (k : ℕ). take k slots) less ∙ sym (ap (λ (k : ℕ). take l (take k slots)) e ∙ go l slots)
    where
      go : (l : ℕ) (xs : List A) → take l (take (suc l) xs) ≡ take l xs
      go zero xs = refl
      go (suc l) [] = refl
      go (suc l) (x ∷ xs) = ap (λ (t : List A). x ∷ t) (go l xs)

-- the second list has f at the level, as its last, and below it what the first has
pub record Topped {A : Type 0} (d : A) (fs gs : List A) (l : ℕ) (f : A) : Type 0 where
  pub below : (k : ℕ) → k < l → get_or gs k d ≡ get_or fs k d
  pub here : get_or gs l d ≡ f
  pub long : length gs ≡ suc l

-- the second list is what the first has below the level
pub record Cut {A : Type 0} (d : A) (fs gs : List A) (l : ℕ) : Type 0 where
  pub below : (k : ℕ) → k < l → get_or gs k d ≡ get_or fs k d
  pub long : length gs ≡ l

module _ {A : Type 0} (d : A) where
  pub put : (fs : List A) (l : ℕ) (f : A) → length fs ≡ l → Topped d fs (fs ++ f ∷ []) l f
  put fs l f e = record { below = λ k h. below_put fs l k f d e h; here = top_put fs l f d e; long = length_put fs l f e }

  pub replaced : (fs : List A) (l : ℕ) (f : A) → length fs ≡ suc l → Topped d fs (take l fs ++ f ∷ []) l f
  replaced fs l f e = record { below = λ k h. below_replaced fs l k f d e h; here = top_replaced fs l f d e; long = length_replaced fs l f e }

  pub taken : (fs : List A) (l : ℕ) → l ≤ length fs → Cut d fs (take l fs) l
  taken fs l h = record { below = λ k i. below_taken fs l k d i; long = length_taken fs l h }
