-- Clauses and lists of entries under valuations.
use Rattle.std.proofs.Common.{◌≡◌, ℕ, ◌<◌, Bool, true, false, not, ◌&&◌, ◌||◌, List, [], ◌∷◌, refl, ap, ◌∙◌}
use Rattle.std.proofs.lemmas.Bool.{and_from, or_left, or_right, and_parts, false_from_ne_true, both_ways}
use Rattle.atoms.specs.Clauses.{Valuation, makes, makes_at, makes_all, names, has_atom}
use Rattle.atoms.specs.Sets.{has, some_below}
use Rattle.atoms.specs.declared.clauses.Clause.{Clause}
use Rattle.atoms.specs.declared.clauses.Entry.{Entry}
use Rattle.atoms.specs.declared.clauses.Mark.TheVariants.{Definition}
use Rattle.atoms.proofs.Below.{some_none, some_here, some_where, none_at, some_same}

-- the entry that a read past a list's end gives
abbrev pub blank : Entry
blank = record { clause = record { plain = record { bits = 0 }; negated = record { bits = 0 } }; mark = Definition }

pub makes_none : (v : Valuation) (c : Clause) → ((i : ℕ) → i < 64 → makes_at v c i ≡ false) → makes v c ≡ false
unfolding makes
makes_none v c h = some_none 64 (makes_at v c) h

-- a true literal makes it true, and where it is true one is
pub makes_here : (v : Valuation) (c : Clause) (i : ℕ) → i < 64 → makes_at v c i ≡ true → makes v c ≡ true
unfolding makes
makes_here v c i l e = some_here 64 (makes_at v c) i l e

pub makes_where : (v : Valuation) (c : Clause) → makes v c ≡ true → (i : ℕ) × (i < 64) × (makes_at v c i ≡ true)
unfolding makes
makes_where v c e = some_where 64 (makes_at v c) e

pub unmade : (v : Valuation) (c : Clause) → makes v c ≡ false → (i : ℕ) → i < 64 → makes_at v c i ≡ false
unfolding makes
unmade v c e i l = none_at 64 (makes_at v c) e i l

-- a clause that one valuation makes true, another makes true that makes its true literals true
pub makes_like : (u v : Valuation) (c : Clause) → ((i : ℕ) → i < 64 → makes_at v c i ≡ true → makes_at u c i ≡ true) → makes v c ≡ true → makes u c ≡ true
makes_like u v c h e = at (makes u c) refl
  where
    at : (b : Bool) → makes u c ≡ b → makes u c ≡ true
    at true q = q
    at false q = absurd (both_ways _ (makes_none v c (λ i l. false_from_ne_true (makes_at v c i) (λ m. both_ways _ (unmade u c q i l) (h i l m)))) e)

-- valuations that agree on the atoms that the entries name
pub agree_all : (es : List Entry) (u v : Valuation) → ((i : ℕ) → names es i ≡ true → i < 64 → u i ≡ v i) → makes_all v es ≡ true → makes_all u es ≡ true
agree_all [] u v h m = refl
agree_all (e ∷ es) u v h m =
    and_from (makes u e.clause) (makes_all u es)
    (makes_like u v e.clause (λ i l k. one (has e.clause.plain i) (has e.clause.negated i) (u i) (v i) k (λ n. h i (or_left _ (names es i) n) l)) (and_parts (makes v e.clause) (makes_all v es) m).0)
    (agree_all es u v (λ i n l. h i (or_right (has_atom e.clause i) (names es i) n) l) (and_parts (makes v e.clause) (makes_all v es) m).1)
  where
    one : (p n u v : Bool) → ((p && v) || (n && not v)) ≡ true → ((p || n) ≡ true → u ≡ v) → ((p && u) || (n && not u)) ≡ true
    one true n u v k h = ap (λ (x : Bool). x || (n && not x)) (h refl) ∙ k
    one false true u v k h = ap not (h refl) ∙ k
    one false false u v k h = absurd (both_ways _ refl k)

-- what the code tests of a clause under a valuation: the set of the atoms of its true literals
pub makes_some : (v : Valuation) (c : Clause) (t : ℕ → Bool) → ((i : ℕ) → t i ≡ makes_at v c i) → some_below 64 t ≡ makes v c
unfolding makes
makes_some v c t e = some_same 64 t (makes_at v c) (λ i _. e i)
