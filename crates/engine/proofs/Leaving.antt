-- The world on top is left: it closes, or it has its tree.
use Rattle.std.proofs.Common.{◌≡◌, ℕ, suc, ◌+◌, true, List, [], ◌∷◌, ◌++◌, length, sym, refl, ap, ◌∙◌, subst, arith, length-append}
use Rattle.std.proofs.lemmas.List.{append_assoc}
use Rattle.lists.specs.Lists.{In}
use Rattle.atoms.specs.Assuming.{assumes}
use Rattle.atoms.specs.Sets.{has}
use Rattle.atoms.specs.declared.assumptions.Assumptions.{Assumptions}
use Rattle.atoms.specs.declared.clauses.Literal.{Literal}
use Rattle.clausal.specs.Questions.{part_of, Learns}
use Rattle.clausal.specs.States.{State, fired, literals}
use Rattle.clausal.specs.Trees.{Tree, node, Complete, sizes, size}
use Rattle.engine.specs.Drawing.{tree_rows, forest_rows}
use Rattle.engine.specs.Outcomes.{Opened, Refuted}
use Rattle.engine.specs.Steps.{tidied}
use Rattle.engine.specs.Worlds.{Shows, World, world_row, own_rows, world_rows, Visits, Above, Seeks, Descends, PartCloses, Settles, frame_at}
use Rattle.engine.specs.declared.frames.Frame.{Frame}
use Rattle.engine.specs.declared.outcome.Outcome.TheVariants.{Open as opened, Closed as closed}
use Rattle.engine.proofs.Forests.{with_tree_whole, forest_length, with_tree, with_tree_rows, tree_length}
use Rattle.engine.proofs.Sheets.{none_stays, tidied_drawn}
use Rattle.engine.proofs.Worlding.{SameBelow, above_same, settled_whole, settled_rows}
use Rattle.firing.specs.Firing.{NamesOf}
use Rattle.oracle.specs.Oracles.{Lists, Refutes}
use Rattle.sheet.specs.declared.row.SheetRow.{SheetRow}

pub part_closes_same : (st : State) (es : Lists) (fs gs : List Frame) (xs : List Literal) (sheet : List SheetRow) (k : ℕ) (core : Assumptions) → SameBelow (suc k) fs gs → PartCloses st es fs xs sheet k core → PartCloses st es gs xs sheet k core
part_closes_same st es fs gs xs sheet k core same s =
    record { trial = s.trial; above = above_same st es es fs gs xs (suc k) same (λ _ _. refl) s.trial s.above; part = s.part; unsatisfiable = s.unsatisfiable; shows = s.shows }

pub descends_same : (st : State) (es : Lists) (fs gs : List Frame) (xs : List Literal) (sheet : List SheetRow) (k count : ℕ) → SameBelow (suc k) fs gs → Descends st es fs xs sheet k count → Descends st es gs xs sheet k count
descends_same st es fs gs xs sheet k count same d =
    let D : Frame → Type 0 = λ f. (w : World st es k d.trial f d.rest) × NamesOf f.unvisited d.rest × (count ≡ length (world_rows w)) × Shows sheet (world_rows w) in
    let e : D (frame_at gs k) = subst D (sym (same k (omega arith))) (d.world, d.unvisited, d.counted, d.shows) in
    record {
      trial = d.trial;
      above = above_same st es es fs gs xs k (λ j h. same j (omega arith)) (λ _ _. refl) d.trial d.above;
      rest = d.rest;
      world = e.0;
      unvisited = e.1;
      counted = e.2;
      shows = e.3;
    }

-- a world that seeks has a core
pub record Closes (st : State) (es : Lists) (fs : List Frame) (xs : List Literal) (sheet : List SheetRow) (count : ℕ) (core : Assumptions) (l : ℕ) : Type 0 where
  pub seeks : Seeks st es fs xs sheet l count
  pub refutes : Refutes (es l) (frame_at fs l).under core

module _ {st : State} {es : Lists} {fs : List Frame} {xs : List Literal} {sheet : List SheetRow} {count : ℕ} {core : Assumptions} where
  closes_part : (l : ℕ) (c : Closes st es fs xs sheet count core l) (x : Literal) → assumes core x ≡ true → In x c.seeks.trial.literals
  closes_part l c x i = c.seeks.assumed.only x (c.refutes.part x i)

  pub closes_root : Closes st es fs xs sheet count core 0 → Refuted es xs (length sheet) (tidied (closed core) sheet) core
  unfolding Above
  closes_root c = record { part = λ x i. subst (In x) c.seeks.above.0 (closes_part 0 c x i); unsatisfiable = c.refutes.unsatisfiable; blank = none_stays sheet }

  pub closes_part_above : (k : ℕ) → Closes st es fs xs sheet count core (suc k) → PartCloses st es fs xs sheet k core
  closes_part_above k c = record { trial = c.seeks.trial; above = c.seeks.above; part = closes_part (suc k) c; unsatisfiable = c.refutes.unsatisfiable; shows = c.seeks.shows }

pub settles_open : (st : State) (es : Lists) (fs : List Frame) (xs : List Literal) (sheet : List SheetRow) (count : ℕ) → Learns st es → Settles st es fs xs sheet 0 count → Opened st xs (length sheet) (tidied (opened count) sheet) count
unfolding Above
settles_open st es fs xs sheet count k s =
    let w = s.world in
    let f : Frame = frame_at fs 0 in
    let t : Tree = node (has f.valuation) w.trees in
    let rows : own_rows f 0 w.trees ≡ tree_rows 0 0 0 t =
    settled_rows st es 0 s.trial f w ∙ ap (λ (p : ℕ). tree_rows p 0 (length s.trial.rows) t) s.above.1 ∙ ap (λ (qs : List SheetRow). tree_rows 0 0 (length qs) t) s.above.2 in
    let all : world_rows w ≡ tree_rows 0 0 0 t = ap (λ (qs : List SheetRow). qs ++ own_rows f 0 w.trees) s.above.2 ∙ rows in
    let sized : size t ≡ count = sym (tree_length 0 0 0 t) ∙ sym (ap length all) ∙ sym s.counted in
    record {
      tree = t;
      whole = subst (λ (ys : List Literal). Complete st 0 ys t) s.above.0 (settled_whole st es 0 s.trial f k w);
      counted = sized;
      shown = tidied_drawn sheet t count sized (subst (Shows sheet) all s.shows);
    }

pub settles_leave : (st : State) (es : Lists) (fs : List Frame) (xs : List Literal) (sheet : List SheetRow) (k count : ℕ) → Learns st es → Settles st es fs xs sheet (suc k) count → Descends st es fs xs sheet k count
unfolding Above
settles_leave st es fs xs sheet k count ln s =
    let a : Visits (Above st es fs xs k) st es k (frame_at fs k) s.trial = s.above in
    let f : Frame = frame_at fs k in
    let g : Frame = frame_at fs (suc k) in
    let u : World st es k a.trial f (f.diamond ∷ a.rest) = a.world in
    let w : World st es (suc k) s.trial g [] = s.world in
    let t : Tree = node (has g.valuation) w.trees in
    let c : Complete st (suc k) (part_of st k (has f.valuation) f.diamond) t = subst (λ (ys : List Literal). Complete st (suc k) ys t) a.literals (settled_whole st es (suc k) s.trial g ln w) in
    let u2 : World st es k a.trial f a.rest = record {
      row = u.row;
      parent = u.parent;
      assumed = u.assumed;
      obeyed = u.obeyed;
      made = u.made;
      done = u.done ++ f.diamond ∷ [];
      split = u.split ∙ sym (append_assoc u.done (f.diamond ∷ []) a.rest);
      trees = with_tree u.trees t;
      whole = with_tree_whole st (suc k) (literals (fired (has f.valuation) (st.boxes k))) u.done f.diamond u.trees t u.whole c;
    } in
    let num : length s.trial.rows ≡ suc f.row + sizes u.trees =
    (let e1 : length s.trial.rows ≡ length a.trial.rows + suc (length (forest_rows f.row (suc k) (suc f.row) u.trees)) = ap length a.rows ∙ length-append a.trial.rows (own_rows f k u.trees) in
    let e2 = forest_length f.row (suc k) (suc f.row) u.trees in
    let e3 = u.row in
    omega arith) in
    let own : own_rows g (suc k) w.trees ≡ tree_rows f.row (suc k) (suc f.row + sizes u.trees) t =
    settled_rows st es (suc k) s.trial g w ∙ ap (λ (p : ℕ). tree_rows p (suc k) (length s.trial.rows) t) a.parent ∙ ap (λ (n : ℕ). tree_rows f.row (suc k) n t) num in
    let all : world_rows w ≡ world_rows u2 =
    ap (λ (qs : List SheetRow). qs ++ own_rows g (suc k) w.trees) a.rows
    ∙ append_assoc a.trial.rows (own_rows f k u.trees) (own_rows g (suc k) w.trees)
    ∙ ap (λ (qs : List SheetRow). a.trial.rows ++ (own_rows f k u.trees ++ qs)) own
    ∙ ap (λ (qs : List SheetRow). a.trial.rows ++ (world_row f k ∷ qs)) (sym (with_tree_rows f.row (suc k) (suc f.row) u.trees t)) in
    record {
      trial = a.trial;
      above = a.above;
      rest = a.rest;
      world = u2;
      unvisited = a.unvisited;
      counted = s.counted ∙ ap length all;
      shows = subst (Shows sheet) all s.shows;
    }
