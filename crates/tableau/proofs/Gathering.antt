-- Worlds for claims on successors: the models of single claims side by side.
use Rattle.std.proofs.Common.{◌≡◌, ℕ, ◌+◌, ◌<◌, true, cond, not, ltb, List, [], ◌∷◌, ◌++◌, length, map, ap, ◌∙◌, arith, length-append}
use Rattle.std.proofs.lemmas.Bool.{ltb-true}
use Rattle.std.proofs.lemmas.List.{length-map}
use Rattle.lists.specs.Lists.{every, In, here, there}
use Rattle.lists.proofs.Members.{every_in}
use Rattle.modal.specs.Kripke.{World, Model}
use Rattle.tableau.specs.Branches.{OpenBranch, asks, AllOpen}
use Rattle.tableau.specs.Claims.{SignedFormula, holds}
use Rattle.tableau.proofs.Unions.{Closed, later, meets_front, meets_back, closed_both}

pub closed_model : (m : Model) → Closed (length m.worlds) m.worlds
closed_model m x i v j =
    ltb-true v (length m.worlds) (every_in (λ u. ltb u (length m.worlds)) j (every_in (λ (y : World). every (λ u. ltb u (length m.worlds)) y.successors) i m.inside))

-- a claim is right where it was
pub holds_front : (ws vs : List World) → Closed (length ws) ws → (s : SignedFormula) (w : ℕ) → w < length ws → holds s (ws ++ vs) w ≡ holds s ws w
holds_front ws vs c s w h = ap (λ b. cond s.plus b (not b)) (meets_front ws vs c s.formula w h)

holds_back : (us ws : List World) (s : SignedFormula) (w : ℕ) → holds s (us ++ map (later (length us)) ws) (length us + w) ≡ holds s ws w
holds_back us ws s w = ap (λ b. cond s.plus b (not b)) (meets_back us ws s.formula w)

-- worlds of a model and some chosen ones among them: at each of these all of bs are right, and each of ds at one
pub record Gathered (bs ds : List SignedFormula) : Type 0 where
  pub worlds : List World
  pub closed : Closed (length worlds) worlds
  pub chosen : List ℕ
  pub inside : (v : ℕ) → In v chosen → v < length worlds
  pub everywhere : (v : ℕ) → In v chosen → (s : SignedFormula) → In s bs → holds s worlds v ≡ true
  pub somewhere : (s : SignedFormula) → In s ds → (v : ℕ) × In v chosen × (holds s worlds v ≡ true)

-- one more claim, with a world of a model of its own
module _ (bs ds : List SignedFormula) (d : SignedFormula) (o : OpenBranch (asks (d ∷ bs))) (g : Gathered bs ds) where
  abbrev added : List World
  added = map (later (length g.worlds)) o.model.worlds

  abbrev joined : List World
  joined = g.worlds ++ added

  abbrev chosen : ℕ
  chosen = length g.worlds + o.number

  longer : length joined ≡ length g.worlds + length o.model.worlds
  longer = length-append g.worlds added ∙ ap (λ n. length g.worlds + n) (length-map o.model.worlds (later (length g.worlds)))

  right_there : (s : SignedFormula) → In s (d ∷ bs) → holds s joined chosen ≡ true
  right_there s i = holds_back g.worlds o.model.worlds s o.number ∙ every_in (λ x. holds x o.model.worlds o.number) i o.fulfils.claims

  as_before : (v : ℕ) → In v g.chosen → (s : SignedFormula) → holds s joined v ≡ holds s g.worlds v
  as_before v i s = holds_front g.worlds added g.closed s v (g.inside v i)

  inside_joined : (v : ℕ) → In v (chosen ∷ g.chosen) → v < length joined
  inside_joined v here = omega (arith, longer, o.inside)
  inside_joined v (there i) = omega (arith, longer, g.inside v i)

  everywhere_joined : (v : ℕ) → In v (chosen ∷ g.chosen) → (s : SignedFormula) → In s bs → holds s joined v ≡ true
  everywhere_joined v here s i = right_there s (there i)
  everywhere_joined v (there j) s i = as_before v j s ∙ g.everywhere v j s i

  somewhere_joined : (s : SignedFormula) → In s (d ∷ ds) → (v : ℕ) × In v (chosen ∷ g.chosen) × (holds s joined v ≡ true)
  somewhere_joined s here = (chosen, here, right_there s here)
  somewhere_joined s (there i) = let (v, j, h) = g.somewhere s i in (v, there j, as_before v j s ∙ h)

  joins : Gathered bs (d ∷ ds)
  joins = record {
    worlds = joined;
    closed = closed_both g.worlds o.model.worlds g.closed (closed_model o.model);
    chosen = chosen ∷ g.chosen;
    inside = inside_joined;
    everywhere = everywhere_joined;
    somewhere = somewhere_joined;
  }

pub gathered : (bs ds : List SignedFormula) → AllOpen bs ds → Gathered bs ds
gathered bs [] h = record {
  worlds = [];
  closed = λ x i. elim i [ ];
  chosen = [];
  inside = λ v i. elim i [ ];
  everywhere = λ v i. elim i [ ];
  somewhere = λ s i. elim i [ ];
}
gathered bs (d ∷ ds) h = joins bs ds d h.0 (gathered bs ds h.1)
