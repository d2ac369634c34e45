-- What is known of the worlds above a level rests on the frames and the entries below it alone; a world with nothing pending is a complete tree.
use Rattle.std.proofs.Common.{◌≡◌, ℕ, zero, suc, ◌<◌, true, List, [], ◌∷◌, length, sym, ap, ◌∙◌, subst, arith}
use Rattle.std.proofs.lemmas.List.{append-nil}
use Rattle.lists.specs.Lists.{In}
use Rattle.lists.proofs.Members.{every_from, every_in, kept_in}
use Rattle.atoms.specs.Assuming.{Obeys}
use Rattle.atoms.specs.Clauses.{Valuation, obeys_one, makes_all, is_definition, definitions}
use Rattle.atoms.specs.Sets.{has, letters_of}
use Rattle.atoms.specs.declared.assumptions.Assumptions.{Assumptions}
use Rattle.atoms.specs.declared.clauses.Literal.{Literal}
use Rattle.atoms.specs.declared.sets.AtomSet.{AtomSet}
use Rattle.clausal.specs.Questions.{Learns}
use Rattle.clausal.specs.States.{State, obeys_all, fired, literals}
use Rattle.clausal.specs.Trees.{node, Complete, CompleteAll}
use Rattle.clausal.specs.declared.modal_clauses.ModalClause.{ModalClause}
use Rattle.engine.specs.Drawing.{tree_rows, forest_rows}
use Rattle.engine.specs.Steps.{staged}
use Rattle.engine.specs.Worlds.{Trial, World, own_rows, Visits, Above, frame_at}
use Rattle.engine.specs.declared.frames.Frame.{Frame}
use Rattle.engine.specs.declared.frames.Stage.{Stage}
use Rattle.engine.proofs.Growing.{every_left}
use Rattle.firing.specs.Firing.{AssumesJust}
use Rattle.oracle.specs.Oracles.{Lists}

-- the frames below a level are the same
abbrev pub SameBelow : ℕ → List Frame → List Frame → Type 0
SameBelow l fs gs = (k : ℕ) → k < l → frame_at gs k ≡ frame_at fs k

world_same : {st : State} (es es' : Lists) {l : ℕ} {trial : Trial} {f : Frame} {ps : List ModalClause} → es' l ≡ es l → World st es l trial f ps → World st es' l trial f ps
world_same es es' {f = f} e w =
    record {
      row = w.row;
      parent = w.parent;
      assumed = w.assumed;
      obeyed = w.obeyed;
      made = ap (makes_all (has f.valuation)) e ∙ w.made;
      done = w.done;
      split = w.split;
      trees = w.trees;
      whole = w.whole;
    }

visits_same : (P Q : Trial → Type 0) {st : State} (es es' : Lists) {l : ℕ} {f : Frame} {next : Trial} → ((t : Trial) → P t → Q t) → es' l ≡ es l → Visits P st es l f next → Visits Q st es' l f next
unfolding world_same
visits_same P Q es es' m e a =
    record {
      trial = a.trial;
      above = m a.trial a.above;
      rest = a.rest;
      world = world_same es es' e a.world;
      unvisited = a.unvisited;
      literals = a.literals;
      parent = a.parent;
      rows = a.rows;
    }

pub above_same : (st : State) (es es' : Lists) (fs gs : List Frame) (xs : List Literal) (l : ℕ) → SameBelow l fs gs → ((k : ℕ) → k < l → es' k ≡ es k) → (trial : Trial) → Above st es fs xs l trial → Above st es' gs xs l trial
unfolding Above
above_same st es es' fs gs xs zero s e trial a = a
above_same st es es' fs gs xs (suc l) s e trial a =
    subst (λ (f : Frame). Visits (Above st es' gs xs l) st es' l f trial) (sym (s l (omega arith)))
    (visits_same (Above st es fs xs l) (Above st es' gs xs l) es es' (above_same st es es' fs gs xs l (λ k h. s k (omega arith)) (λ k h. e k (omega arith))) (e l (omega arith)) a)

-- the stage of a world, and what it is still to visit, do not matter
unfoldable pub world_turned : {st : State} {es : Lists} {l : ℕ} {trial : Trial} {f : Frame} {ps : List ModalClause} (s : Stage) (unvisited : AtomSet) (d : ModalClause) → World st es l trial f ps → World st es l trial (staged f s unvisited d) ps
world_turned s unvisited d w =
    record {
      row = w.row;
      parent = w.parent;
      assumed = w.assumed;
      obeyed = w.obeyed;
      made = w.made;
      done = w.done;
      split = w.split;
      trees = w.trees;
      whole = w.whole;
    }

-- what is assumed is obeyed
pub assumed_obeyed : (v : Valuation) {w : Assumptions} {xs : List Literal} → ((x : Literal) → In x xs → x.atom < 64) → AssumesJust w xs → Obeys v w → obeys_all v xs ≡ true
assumed_obeyed v {xs = xs} small s o = every_from (obeys_one v) xs (λ x i. o x (s.each x i (small x i)))

-- a world with nothing pending is a complete tree

definitions_made : (st : State) (es : Lists) (l : ℕ) (v : Valuation) → Learns st es → makes_all v (es l) ≡ true → makes_all v (definitions (st.entries l)) ≡ true
definitions_made st es l v k m =
    let g = k.grown l in
    let old : makes_all v (st.entries l) ≡ true = every_left _ (st.entries l) g.0 (ap (makes_all v) (sym g.1) ∙ m) in
    every_from _ (definitions (st.entries l)) (λ e i. every_in _ (kept_in is_definition (st.entries l) i).0 old)

pub settled_whole : (st : State) (es : Lists) (l : ℕ) (trial : Trial) (f : Frame) → Learns st es → (w : World st es l trial f []) → Complete st l trial.literals (node (has f.valuation) w.trees)
settled_whole st es l trial f k w = (
  w.obeyed,
  definitions_made st es l (has f.valuation) k w.made,
  subst (λ (ds : List ModalClause). CompleteAll st (suc l) (literals (fired (has f.valuation) (st.boxes l))) ds w.trees) (sym (append-nil w.done) ∙ sym w.split) w.whole,
)

-- its rows are those of the tree
pub settled_rows : (st : State) (es : Lists) (l : ℕ) (trial : Trial) (f : Frame) (w : World st es l trial f []) → own_rows f l w.trees ≡ tree_rows trial.parent l (length trial.rows) (node (has f.valuation) w.trees)
settled_rows st es l trial f w =
    ap (λ (p : ℕ). record { parent = p; level = l; letters = letters_of (has f.valuation) } ∷ forest_rows f.row (suc l) (suc f.row) w.trees) w.parent
    ∙ ap (λ (n : ℕ). tree_rows trial.parent l n (node (has f.valuation) w.trees)) w.row
