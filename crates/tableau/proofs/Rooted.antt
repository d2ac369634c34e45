-- A branch with no more claims on the world itself: it is open exactly if each of its claims on successors is.
use Rattle.std.proofs.Common.{◌≡◌, ℕ, ◌+◌, Bool, true, false, cond, not, ◌&&◌, eqb, ltb, List, [], ◌∷◌, ◌++◌, length, sym, refl, ap, ◌∙◌, subst, inl, inr, arith, length-append}
use Rattle.std.proofs.lemmas.Bool.{and_parts, and_from, cases_Bool, lt-ltb, eq-eqb, eqb-true}
use Rattle.std.proofs.lemmas.List.{get_or_at}
use Rattle.lists.specs.Lists.{every, some, In}
use Rattle.lists.proofs.Members.{every_in, every_from, some_in, some_from, in_either, in_one}
use Rattle.modal.specs.Kripke.{World, bare, world}
use Rattle.modal.proofs.Models.{successor_inside}
use Rattle.tableau.specs.Branches.{Branch, OpenBranch, AllOpen, DecidesAll, DecidesBranch, Consistent}
use Rattle.tableau.specs.Claims.{SignedFormula, holds, opposite}
use Rattle.tableau.specs.declared.claims.SignedLetter.{SignedLetter}
use Rattle.tableau.proofs.Unions.{Closed}
use Rattle.tableau.proofs.Gathering.{Gathered, gathered, holds_front}

closed_test : (b : ℕ) (ws : List World) → Closed b ws → every (λ x. every (λ v. ltb v b) x.successors) ws ≡ true
closed_test b ws h = every_from _ ws (λ x i. every_from _ x.successors (λ v j. lt-ltb v b (h x i v j)))

same_letter : (k l : SignedLetter) → k.plus ≡ not l.plus → k.letter ≡ l.letter → k ≡ opposite l
same_letter k l p e = λ i. record { letter = e i; plus = p i }

-- a new world over the gathered ones, with the letters that are to be true
module _ (ls : List SignedLetter) (bs ds : List SignedFormula) (consistent : Consistent ls) (g : Gathered bs ds) where
  abbrev says_letter : ℕ → SignedLetter → Bool
  says_letter a l = l.plus && eqb a l.letter

  abbrev root : World
  root = record { letters = λ a. some (says_letter a) ls; successors = g.chosen }

  abbrev rooted : List World
  rooted = g.worlds ++ root ∷ []

  agreed : (l : SignedLetter) (b : Bool) → l.plus ≡ b → In l ls → cond b (some (says_letter l.letter) ls) (not (some (says_letter l.letter) ls)) ≡ true
  agreed l true e i = some_from (says_letter l.letter) i (and_from _ _ e (eq-eqb l.letter l.letter refl))
  agreed l false e i = elim (cases_Bool (some (says_letter l.letter) ls)) [
    | inl h ↦
        let (k, j, q) = some_in (says_letter l.letter) ls h in
        let (p, r) = and_parts k.plus (eqb l.letter k.letter) q in
        absurd (consistent l i (subst (λ z. In z ls) (same_letter k l (p ∙ sym (ap not e)) (sym (eqb-true l.letter k.letter r))) j))
    | inr h ↦ ap not h
  ]

  longer : length rooted ≡ length g.worlds + 1
  longer = length-append g.worlds (root ∷ [])

  closed_rooted : Closed (length rooted) rooted
  closed_rooted x i v j = elim (in_either g.worlds (root ∷ []) i) [
    | inl l ↦ omega (arith, longer, g.closed x l v j)
    | inr r ↦ omega (arith, longer, g.inside v (subst (λ (y : World). In v y.successors) (sym (in_one r)) j))
  ]

  root_there : world rooted (length g.worlds) ≡ root
  root_there = get_or_at g.worlds root [] bare (length g.worlds) refl

  as_before : (v : ℕ) → In v g.chosen → (s : SignedFormula) → holds s rooted v ≡ holds s g.worlds v
  as_before v i s = holds_front g.worlds (root ∷ []) g.closed s v (g.inside v i)

  roots : OpenBranch (record { claims = []; letters = ls; everywhere = bs; somewhere = ds })
  roots = record {
    model = record { worlds = rooted; inhabited = omega (arith, longer); inside = closed_test (length rooted) rooted closed_rooted };
    number = length g.worlds;
    inside = omega (arith, longer);
    fulfils = record {
      claims = refl;
      letters = rw root_there (every_from _ ls (λ l i. agreed l l.plus refl i));
      everywhere = rw root_there (every_from _ bs (λ s i. every_from _ g.chosen (λ v j. as_before v j s ∙ g.everywhere v j s i)));
      somewhere = rw root_there (every_from _ ds (λ s i. let (v, j, h) = g.somewhere s i in some_from (holds s rooted) j (as_before v j s ∙ h)));
    };
  }

-- and the other way: the successors of a world as the branch asks
module _ (b : Branch) (o : OpenBranch b) where
  abbrev successors : List ℕ
  successors = (world o.model.worlds o.number).successors

  reached : (ds : List SignedFormula) → every (λ s. some (holds s o.model.worlds) successors) ds ≡ true → AllOpen b.everywhere ds
  reached [] h = tt
  reached (d ∷ ds) h =
      let (f, r) = and_parts (some (holds d o.model.worlds) successors) (every (λ s. some (holds s o.model.worlds) successors) ds) h in
      let (v, i, e) = some_in (holds d o.model.worlds) successors f in (
        record {
          model = o.model;
          number = v;
          inside = successor_inside o.model o.number v o.inside i;
          fulfils = record {
            claims = and_from _ _ e (every_from _ b.everywhere (λ s j. every_in (holds s o.model.worlds) i (every_in (λ s. every (holds s o.model.worlds) successors) j o.fulfils.everywhere)));
            letters = refl;
            everywhere = refl;
            somewhere = refl;
          };
        },
        reached ds r,
      )

pub beyond : (ls : List SignedLetter) (bs ds : List SignedFormula) (met : Bool) → Consistent ls → DecidesAll bs ds met → DecidesBranch (record { claims = []; letters = ls; everywhere = bs; somewhere = ds }) met
beyond ls bs ds met c a = ((λ e. roots ls bs ds c (gathered bs ds (a.0 e))), (λ e o. a.1 e (reached _ o ds o.fulfils.somewhere)))
