-- The world on top goes on: with a valuation, to the part of its next diamond clause, or with nothing left to visit.
use Rattle.std.proofs.Common.{◌≡◌, ℕ, suc, ◌<◌, false, not, ◌&&◌, eqb, List, [], ◌∷◌, length, sym, refl, ap, ◌∙◌, subst, arith, length-append}
use Rattle.lists.specs.Lists.{In, here, there}
use Rattle.lists.proofs.Members.{kept_in}
use Rattle.atoms.specs.Clauses.{Valuation}
use Rattle.atoms.specs.Sets.{has, letters_of}
use Rattle.atoms.specs.declared.assumptions.Assumptions.{Assumptions}
use Rattle.atoms.specs.declared.clauses.Literal.{Literal}
use Rattle.atoms.specs.declared.sets.AtomSet.{AtomSet}
use Rattle.clausal.specs.Clausal.{Orderly}
use Rattle.clausal.specs.Questions.{part_of}
use Rattle.clausal.specs.States.{State, fired, literals}
use Rattle.clausal.specs.Trees.{none}
use Rattle.clausal.specs.declared.modal_clauses.ModalClause.{ModalClause}
use Rattle.engine.specs.Pending.{NextIs}
use Rattle.engine.specs.Steps.{fresh, valued, staged, drawn_at}
use Rattle.engine.specs.Worlds.{Shows, Trial, World, own_rows, world_rows, Visits, Above, Seeks, Descends, Settles, frame_at}
use Rattle.engine.specs.declared.frames.Frame.{Frame}
use Rattle.engine.specs.declared.frames.Stage.TheVariants.{Settled}
use Rattle.engine.proofs.Sheets.{shows_more}
use Rattle.engine.proofs.NextVisit.{next_pending, Next, none_left}
use Rattle.engine.proofs.Worlding.{SameBelow, above_same, world_turned, assumed_obeyed}
use Rattle.firing.proofs.Gathering.{literal_from}
use Rattle.firing.specs.Firing.{AssumesJust, NamesOf}
use Rattle.oracle.specs.Oracles.{Lists, Satisfies}
use Rattle.sheet.specs.declared.row.SheetRow.{SheetRow}

pub seeks_on : (st : State) (es : Lists) (fs gs : List Frame) (xs : List Literal) (sheet : List SheetRow) (l count : ℕ) (v unvisited : AtomSet) → Seeks st es fs xs sheet l count → SameBelow l fs gs → frame_at gs l ≡ valued (frame_at fs l) v unvisited → Satisfies (es l) (frame_at fs l).under (has v) → NamesOf unvisited (fired (has v) (st.diamonds l)) → Descends st es gs xs (drawn_at sheet (frame_at fs l).row (frame_at fs l).parent l (letters_of (has v))) l count
seeks_on st es fs gs xs sheet l count v unvisited k same is sat names =
    let f : Frame = valued (frame_at fs l) v unvisited in
    let sheet' : List SheetRow = drawn_at sheet f.row f.parent l (letters_of (has v)) in
    let w : World st es l k.trial f (fired (has v) (st.diamonds l)) = record {
      row = k.row;
      parent = k.parent;
      assumed = k.assumed;
      obeyed = assumed_obeyed (has v) k.trial.small k.assumed sat.obeyed;
      made = sat.made;
      done = [];
      split = refl;
      trees = none;
      whole = refl;
    } in
    let D : Frame → Type 0 = λ g. (w : World st es l k.trial g (fired (has v) (st.diamonds l))) × NamesOf g.unvisited (fired (has v) (st.diamonds l)) × (count ≡ length (world_rows w)) × Shows sheet' (world_rows w) in
    let n = length-append k.trial.rows (own_rows f l none) in
    let c = k.counted in
    let d : D (frame_at gs l) = subst D (sym is) (w, names, omega arith, shows_more sheet k.trial.rows _ f.row k.row k.shows) in
    record {
      trial = k.trial;
      above = above_same st es es fs gs xs l same (λ _ _. refl) k.trial k.above;
      rest = fired (has v) (st.diamonds l);
      world = d.0;
      unvisited = d.1;
      counted = d.2;
      shows = d.3;
    }

part_small : (v : Valuation) (bs : List ModalClause) (m : ModalClause) → m.literal.atom < 64 → ((b : ModalClause) → In b bs → (b.name < 64) × (b.literal.atom < 64)) → (x : Literal) → In x (m.literal ∷ literals (fired v bs)) → x.atom < 64
part_small v bs m h small x here = h
part_small v bs m h small x (there i) =
    let (b, j, e) = literal_from (fired v bs) i in
    subst (λ (y : Literal). y.atom < 64) e (small b (kept_in (λ c. v c.name) bs j).0).1

pub descends_on : (st : State) (es : Lists) (fs gs : List Frame) (xs : List Literal) (sheet : List SheetRow) (l count : ℕ) (unvisited : AtomSet) (m : ModalClause) (under : Assumptions) → Descends st es fs xs sheet l count → Orderly l (st.boxes l) → Orderly l (st.diamonds l) → NextIs (st.diamonds l) (frame_at fs l).unvisited m → ((i : ℕ) → has unvisited i ≡ has (frame_at fs l).unvisited i && not (eqb m.name i)) → AssumesJust under (part_of st l (has (frame_at fs l).valuation) m) → SameBelow l fs gs → frame_at gs l ≡ staged (frame_at fs l) (frame_at fs l).stage unvisited m → frame_at gs (suc l) ≡ fresh under (frame_at fs l).row count → Seeks st es gs xs sheet (suc l) (suc count)
unfolding Above world_turned
descends_on st es fs gs xs sheet l count unvisited m under k boxes diamonds next_is less assumed same is below =
    record {
      trial = trial;
      above = subst (λ (x : Frame). Visits (Above st es gs xs l) st es l x trial) (sym is) above;
      row = ap (λ (x : Frame). x.row) below ∙ k.counted;
      parent = ap (λ (x : Frame). x.parent) below;
      assumed = subst (λ (y : Assumptions). AssumesJust y (part_of st l v m)) (sym (ap (λ (x : Frame). x.under) below)) assumed;
      counted = ap suc k.counted;
      shows = k.shows;
    }
  where
    f : Frame
    f = frame_at fs l

    v : Valuation
    v = has f.valuation

    next : Next unvisited k.rest m
    next = next_pending v f.unvisited unvisited (st.diamonds l) k.world.done k.rest m diamonds.rising k.world.split k.unvisited next_is less

    trial : Trial
    trial = record { literals = part_of st l v m; small = part_small v (st.boxes l) m (diamonds.small m next_is.listed).1 boxes.small; parent = f.row; rows = world_rows k.world }

    u : (w : World st es l k.trial f (m ∷ next.rest)) × (world_rows w ≡ world_rows k.world)
    u = subst (λ (ps : List ModalClause). (w : World st es l k.trial f ps) × (world_rows w ≡ world_rows k.world)) next.is (k.world, refl)

    above : Visits (Above st es gs xs l) st es l (staged f f.stage unvisited m) trial
    above =
        record {
          trial = k.trial;
          above = above_same st es es fs gs xs l same (λ _ _. refl) k.trial k.above;
          rest = next.rest;
          world = world_turned f.stage unvisited m u.0;
          unvisited = next.names;
          literals = refl;
          parent = refl;
          rows = sym u.1;
        }

pub settles : (st : State) (es : Lists) (fs gs : List Frame) (xs : List Literal) (sheet : List SheetRow) (l count : ℕ) → Descends st es fs xs sheet l count → ((i : ℕ) → has (frame_at fs l).unvisited i ≡ false) → SameBelow l fs gs → frame_at gs l ≡ staged (frame_at fs l) Settled (frame_at fs l).unvisited (frame_at fs l).diamond → Settles st es gs xs sheet l count
unfolding world_turned
settles st es fs gs xs sheet l count k z same is =
    let f : Frame = frame_at fs l in
    let D : List ModalClause → Frame → Type 0 = λ ps g. (w : World st es l k.trial g ps) × (count ≡ length (world_rows w)) × Shows sheet (world_rows w) in
    let a : D k.rest (staged f Settled f.unvisited f.diamond) = (world_turned Settled f.unvisited f.diamond k.world, k.counted, k.shows) in
    let b : D [] (staged f Settled f.unvisited f.diamond) = subst (λ (ps : List ModalClause). D ps (staged f Settled f.unvisited f.diamond)) (none_left f.unvisited k.rest k.unvisited z) a in
    let c : D [] (frame_at gs l) = subst (D []) (sym is) b in
    record {
      trial = k.trial;
      above = above_same st es es fs gs xs l same (λ _ _. refl) k.trial k.above;
      world = c.0;
      counted = c.1;
      shows = c.2;
    }
