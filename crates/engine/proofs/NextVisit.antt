-- The diamond clause that is visited next is the first that is pending.
use Rattle.std.proofs.Common.{◌≡◌, ℕ, true, false, not, ◌&&◌, eqb, List, [], ◌∷◌, ◌++◌, sym, refl, ap, ◌∙◌, subst, arith, ne_eqb}
use Rattle.std.proofs.lemmas.Bool.{and_parts, and_from, both_ways, eq-eqb}
use Rattle.std.specs.Prelude.{◌≢◌}
use Rattle.lists.specs.Lists.{In, here, there}
use Rattle.lists.proofs.Members.{in_right, kept_in}
use Rattle.atoms.specs.Clauses.{Valuation}
use Rattle.atoms.specs.Sets.{has}
use Rattle.atoms.specs.declared.sets.AtomSet.{AtomSet}
use Rattle.clausal.specs.Clausal.{Rising}
use Rattle.clausal.specs.States.{fired}
use Rattle.clausal.specs.declared.modal_clauses.ModalClause.{ModalClause}
use Rattle.engine.specs.Pending.{NextIs}
use Rattle.firing.specs.Firing.{NamesOf}
use Rattle.firing.proofs.Rising.{rising_back, rising_kept, rising_once}

-- the names still to visit without that of the first clause that is pending
pub record Next (unvisited : AtomSet) (ps : List ModalClause) (m : ModalClause) : Type 0 where
  pub rest : List ModalClause
  pub is : ps ≡ m ∷ rest
  pub names : NamesOf unvisited rest

-- the first that is pending has the lowest name
first_pending : (s s' : AtomSet) (ds ps : List ModalClause) (m : ModalClause) → Rising ds → Rising ps → ((d : ModalClause) → In d ps → In d ds) → NamesOf s ps → NextIs ds s m → ((i : ℕ) → has s' i ≡ has s i && not (eqb m.name i)) → Next s' ps m
first_pending s s' ds [] m rd rp sub n next less = elim (n.only m.name next.lowest.member).1 [ ]
first_pending s s' ds (p ∷ ps) m rd rp sub n next less =
    record {
      rest = ps;
      is = ap (λ (x : ModalClause). x ∷ ps) (rising_once ds p m rd (sub p here) next.listed named);
      names = record {
        each = λ d i. less d.name ∙ and_from (has s d.name) (not (eqb m.name d.name)) (n.each d (there i)) (ap not (ne_eqb m.name d.name (λ e. let lt = rp.0 d i in let nm = named in omega arith)));
        only = λ i e. let b = and_parts (has s i) (not (eqb m.name i)) (sym (less i) ∙ e) in rest_only i b.0 (λ q. both_ways _ (ap not (eq-eqb m.name i q)) b.1);
      };
    }
  where
    from_here : (d : ModalClause) → In d (p ∷ ps) → d.name ≡ m.name → p.name ≡ m.name
    from_here d here e = e
    from_here d (there i) e = let lt = rp.0 d i in absurd (both_ways _ (next.lowest.first p.name (omega arith)) (n.each p here))

    named : p.name ≡ m.name
    named = let o = n.only m.name next.lowest.member in from_here o.0 o.1 o.2

    in_rest : (i : ℕ) → (m.name ≢ i) → (d : ModalClause) → In d (p ∷ ps) → d.name ≡ i → (d : ModalClause) × In d ps × (d.name ≡ i)
    in_rest i ne d here e = absurd (ne (sym named ∙ e))
    in_rest i ne d (there j) e = (d, j, e)

    rest_only : (i : ℕ) → has s i ≡ true → (m.name ≢ i) → (d : ModalClause) × In d ps × (d.name ≡ i)
    rest_only i e ne = let o = n.only i e in in_rest i ne o.0 o.1 o.2

pub next_pending : (v : Valuation) (s s' : AtomSet) (ds front ps : List ModalClause) (m : ModalClause) → Rising ds → fired v ds ≡ front ++ ps → NamesOf s ps → NextIs ds s m → ((i : ℕ) → has s' i ≡ has s i && not (eqb m.name i)) → Next s' ps m
next_pending v s s' ds front ps m rising split n next less =
    let rise : Rising (front ++ ps) = subst Rising split (rising_kept (λ d. v d.name) ds rising) in
    first_pending s s' ds ps m rising (rising_back front ps rise) (λ d i. (kept_in (λ e. v e.name) ds (subst (In d) (sym split) (in_right front i))).0) n next less

pub none_left : (s : AtomSet) (ds : List ModalClause) → NamesOf s ds → ((a : ℕ) → has s a ≡ false) → ds ≡ []
none_left s [] n z = refl
none_left s (d ∷ ds) n z = absurd (both_ways _ (z d.name) (n.each d here))
