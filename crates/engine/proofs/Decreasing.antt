-- Which changes of the frames keep the bounds and lower the measure.
use Rattle.std.proofs.Common.{◌≡◌, ℕ, suc, ◌+◌, ◌*◌, ◌<◌, ◌≤◌, false, List, length, sym, refl, ap, ◌∙◌, subst, arith}
use Rattle.atoms.specs.Clauses.{learnt}
use Rattle.atoms.specs.Sets.{has}
use Rattle.engine.specs.Termination.{turns_at, visit_turns, visits_left, waiting_turns, stage_turns, turns_left, question_turns, learnable, measure, Small, FromBelow, Bounded, Decreases}
use Rattle.engine.specs.declared.frames.Answer.{Answer}
use Rattle.engine.specs.declared.frames.Answer.TheVariants.{Nothing}
use Rattle.engine.specs.declared.frames.Cursor.{Cursor}
use Rattle.engine.specs.declared.frames.Frame.{Frame}
use Rattle.engine.specs.declared.frames.Stage.{Stage}
use Rattle.engine.specs.declared.frames.Stage.TheVariants.{Seeking, Descending}
use Rattle.oracle.specs.Oracles.{Lists}
use Rattle.engine.specs.Worlds.{no_frame, frame_at}
use Rattle.engine.proofs.TurnCounts.{waiting_more, up_to, more_times, waiting_same, spare_less, spare_same}
use Rattle.engine.proofs.Stacked.{Topped, Cut}

-- there is room for the world at the level to seek again
abbrev Room : List Frame → ℕ → Type 0
Room fs i = ((frame_at fs i).row + 1) + (waiting_turns fs i + turns_at i) ≤ question_turns

module _ (fs gs : List Frame) (l : ℕ) (same : (k : ℕ) → k < l → frame_at gs k ≡ frame_at fs k) where
  waiting_kept : waiting_turns gs l ≡ waiting_turns fs l
  waiting_kept = waiting_same fs gs l same

  seek_again_kept : ((i : ℕ) → i ≤ l → Room fs i) → (frame_at gs l).row ≡ (frame_at fs l).row → (i : ℕ) → i ≤ l → Room gs i
  seek_again_kept r e = up_to (Room gs) l below (let p = r l (omega arith) in let w = waiting_kept in omega arith)
    where
      below : (i : ℕ) → i < l → Room gs i
      below i h =
          let w : waiting_turns gs i ≡ waiting_turns fs i = waiting_same fs gs i (λ k lt. same k (omega arith)) in
          let q : (frame_at gs i).row ≡ (frame_at fs i).row = ap (λ (f : Frame). f.row) (same i h) in
          let p = r i (omega arith) in
          omega arith

  stages_kept : ((i : ℕ) → i < l → (frame_at fs i).stage ≡ Descending) → (i : ℕ) → i < l → (frame_at gs i).stage ≡ Descending
  stages_kept w i h = ap (λ (f : Frame). f.stage) (same i h) ∙ w i h

  small_kept : ((i : ℕ) → i ≤ l → Small (frame_at fs i).diamond) → Small (frame_at gs l).diamond → (i : ℕ) → i ≤ l → Small (frame_at gs i).diamond
  small_kept s t = up_to (λ i. Small (frame_at gs i).diamond) l (λ i h. subst (λ (f : Frame). Small f.diamond) (sym (same i h)) (s i (omega arith))) t

measure_decreases : (before after : Lists) (fs gs : List Frame) (at next : Cursor) → ((k : ℕ) → after k ≡ before k) → turns_left gs next < turns_left fs at → measure after gs next < measure before fs at
unfolding measure
measure_decreases before after fs gs at next e h =
    let p : learnable after * suc question_turns ≡ learnable before * suc question_turns = ap (λ (x : ℕ). x * suc question_turns) (spare_same before after 8 (λ k _. e k)) in
    omega arith

-- the bounds, when the top alone has changed and nothing has come back
top_bounded : (fs gs : List Frame) (at : Cursor) (count : ℕ) (f : Frame) → Bounded fs at → Topped no_frame fs gs at.level f → f.row ≡ (frame_at fs at.level).row → Small f.diamond → (7 ≤ at.level → (i : ℕ) → has f.unvisited i ≡ false) → count + turns_left gs (record { level = at.level; count = count; answer = Nothing }) ≤ question_turns → Bounded gs (record { level = at.level; count = count; answer = Nothing })
top_bounded fs gs at count f b top row small last turns =
    let l : ℕ = at.level in
    let same : (k : ℕ) → k < l → frame_at gs k ≡ frame_at fs k = top.below in
    let is : frame_at gs l ≡ f = top.here in
    record {
      long = top.long;
      level = b.level;
      seek_again = seek_again_kept fs gs l same b.seek_again (ap (λ (x : Frame). x.row) is ∙ row);
      turns = turns;
      last_level = λ h i. ap (λ (x : Frame). has x.unvisited i) is ∙ last h i;
      descending = stages_kept fs gs l same b.descending;
      small = small_kept fs gs l same b.small (subst (λ (x : Frame). Small x.diamond) (sym is) small);
      shallow = tt;
    }

-- the world on top goes to a stage with fewer turns
pub stage_changes : (before after : Lists) (fs gs : List Frame) (at : Cursor) → Bounded fs at → ((k : ℕ) → after k ≡ before k) → (f : Frame) → Topped no_frame fs gs at.level f → f.row ≡ (frame_at fs at.level).row → f.diamond ≡ (frame_at fs at.level).diamond → (7 ≤ at.level → (i : ℕ) → has f.unvisited i ≡ false) → stage_turns f.stage f at.level < stage_turns (frame_at fs at.level).stage (frame_at fs at.level) at.level → Decreases before fs at after gs (record { level = at.level; count = at.count; answer = Nothing })
stage_changes before after fs gs at b e f top row dia bot less =
    let l : ℕ = at.level in
    let w : waiting_turns gs l ≡ waiting_turns fs l = waiting_kept fs gs l top.below in
    let c : stage_turns (frame_at gs l).stage (frame_at gs l) l ≡ stage_turns f.stage f l = ap (λ (x : Frame). stage_turns x.stage x l) top.here in
    let s = b.turns in
    record {
      bounded = top_bounded fs gs at at.count f b top row (subst Small (sym dia) (b.small l (omega arith))) bot (omega arith);
      less = measure_decreases before after fs gs at (record { level = l; count = at.count; answer = Nothing }) e (omega arith);
    }

-- the search goes back from the world on top to the one that it is a part of
pub goes_back : (before after : Lists) (fs gs : List Frame) (at : Cursor) (k : ℕ) (a : Answer) → Bounded fs at → ((j : ℕ) → after j ≡ before j) → suc k ≡ at.level → Cut no_frame fs gs (suc k) → FromBelow a k → Decreases before fs at after gs (record { level = k; count = at.count; answer = a })
goes_back before after fs gs at k a b e is cut sh =
    let lv = b.level in
    let s = b.turns in
    let same : (j : ℕ) → j < k → frame_at gs j ≡ frame_at fs j = λ j h. cut.below j (omega arith) in
    let here : frame_at gs k ≡ frame_at fs k = cut.below k (omega arith) in
    let stage : (frame_at gs k).stage ≡ Descending = ap (λ (x : Frame). x.stage) here ∙ b.descending k (omega arith) in
    let m : waiting_turns fs at.level ≡ waiting_turns fs k + (visits_left (frame_at fs k) * visit_turns k + 3) = ap (waiting_turns fs) (sym is) ∙ waiting_more fs k in
    let w : waiting_turns gs k ≡ waiting_turns fs k = waiting_kept fs gs k same in
    let c : stage_turns (frame_at gs k).stage (frame_at gs k) k ≡ visits_left (frame_at gs k) * visit_turns k + 2 = ap (λ (x : Stage). stage_turns x (frame_at gs k) k) stage in
    let o : visits_left (frame_at gs k) * visit_turns k ≡ visits_left (frame_at fs k) * visit_turns k = ap (λ (x : Frame). visits_left x * visit_turns k) here in
    record {
      bounded = record {
        long = cut.long;
        level = omega arith;
        seek_again = seek_again_kept fs gs k same (λ i h. b.seek_again i (omega arith)) (ap (λ (x : Frame). x.row) here);
        turns = omega arith;
        last_level = λ h. absurd (omega arith);
        descending = stages_kept fs gs k same (λ i h. b.descending i (omega arith));
        small = small_kept fs gs k same (λ i h. b.small i (omega arith)) (subst (λ (x : Frame). Small x.diamond) (sym here) (b.small k (omega arith)));
        shallow = sh;
      };
      less = measure_decreases before after fs gs at (record { level = k; count = at.count; answer = a }) e (omega arith);
    }

-- a part is tried one level further: the world on top has one visit less to make, and a world that seeks comes on top
pub goes_down : (es : Lists) (fs mid gs : List Frame) (at : Cursor) (f child : Frame) → Bounded fs at → (frame_at fs at.level).stage ≡ Descending → at.level < 7 → Topped no_frame fs mid at.level f → Topped no_frame mid gs (suc at.level) child → f.stage ≡ Descending → f.row ≡ (frame_at fs at.level).row → Small f.diamond → visits_left f + 1 ≡ visits_left (frame_at fs at.level) → child.stage ≡ Seeking → child.row ≡ at.count → ((i : ℕ) → has child.unvisited i ≡ false) → Small child.diamond → Decreases es fs at es gs (record { level = suc at.level; count = at.count + 1; answer = Nothing })
goes_down es fs mid gs at f child b stage low top more fstage row dia one cstage crow cleft cdia =
    let l : ℕ = at.level in
    let lv = b.level in
    let s = b.turns in
    let same : (k : ℕ) → k < l → frame_at gs k ≡ frame_at fs k = λ k h. more.below k (omega arith) ∙ top.below k h in
    let is : frame_at gs l ≡ f = more.below l (omega arith) ∙ top.here in
    let below : frame_at gs (suc l) ≡ child = more.here in
    let w : waiting_turns gs l ≡ waiting_turns fs l = waiting_kept fs gs l same in
    let c0 : stage_turns (frame_at fs l).stage (frame_at fs l) l ≡ visits_left (frame_at fs l) * visit_turns l + 2 = ap (λ (x : Stage). stage_turns x (frame_at fs l) l) stage in
    let t : visits_left (frame_at fs l) * visit_turns l ≡ visits_left f * visit_turns l + visit_turns l = more_times (visits_left f) (visits_left (frame_at fs l)) (visit_turns l) one in
    let g : visits_left (frame_at gs l) * visit_turns l ≡ visits_left f * visit_turns l = ap (λ (x : Frame). visits_left x * visit_turns l) is in
    let m : waiting_turns gs (suc l) ≡ waiting_turns gs l + (visits_left (frame_at gs l) * visit_turns l + 3) = waiting_more gs l in
    let c1 : stage_turns (frame_at gs (suc l)).stage (frame_at gs (suc l)) (suc l) ≡ turns_at (suc l) = ap (λ (x : Stage). stage_turns x (frame_at gs (suc l)) (suc l)) (ap (λ (x : Frame). x.stage) below ∙ cstage) in
    let r1 : (frame_at gs (suc l)).row ≡ at.count = ap (λ (x : Frame). x.row) below ∙ crow in
    let rooms : (i : ℕ) → i ≤ l → Room gs i = seek_again_kept fs gs l same b.seek_again (ap (λ (x : Frame). x.row) is ∙ row) in
    let room : Room gs (suc l) = omega arith in
    let smalls : (i : ℕ) → i ≤ l → Small (frame_at gs i).diamond = small_kept fs gs l same b.small (subst (λ (x : Frame). Small x.diamond) (sym is) dia) in
    let stages : (i : ℕ) → i < l → (frame_at gs i).stage ≡ Descending = stages_kept fs gs l same b.descending in
    record {
      bounded = record {
        long = more.long;
        level = omega arith;
        seek_again = up_to (Room gs) (suc l) (λ i h. rooms i (omega arith)) room;
        turns = omega arith;
        last_level = λ h i. ap (λ (x : Frame). has x.unvisited i) below ∙ cleft i;
        descending = λ i h. up_to (λ j. (frame_at gs j).stage ≡ Descending) l stages (ap (λ (x : Frame). x.stage) is ∙ fstage) i (omega arith);
        small = up_to (λ j. Small (frame_at gs j).diamond) (suc l) (λ i h. smalls i (omega arith)) (subst (λ (x : Frame). Small x.diamond) (sym below) cdia);
        shallow = tt;
      };
      less = measure_decreases es es fs gs at (record { level = suc l; count = at.count + 1; answer = Nothing }) (λ k. refl) (omega arith);
    }

-- the world on top learns and seeks again
pub learns_again : (before after : Lists) (fs gs : List Frame) (at : Cursor) (f : Frame) → Bounded fs at → Topped no_frame fs gs at.level f → ((k : ℕ) → (k ≡ at.level → ⊥) → after k ≡ before k) → length (learnt (after at.level)) ≡ suc (length (learnt (before at.level))) → length (learnt (before at.level)) < 128 → f.stage ≡ Seeking → f.row ≡ (frame_at fs at.level).row → ((i : ℕ) → has f.unvisited i ≡ false) → Small f.diamond → Decreases before fs at after gs (record { level = at.level; count = (frame_at fs at.level).row + 1; answer = Nothing })
unfolding measure
learns_again before after fs gs at f b top oth one few stage row unvisited dia =
    let l : ℕ = at.level in
    let lv = b.level in
    let w : waiting_turns gs l ≡ waiting_turns fs l = waiting_kept fs gs l top.below in
    let c : stage_turns (frame_at gs l).stage (frame_at gs l) l ≡ turns_at l = ap (λ (x : Stage). stage_turns x (frame_at gs l) l) (ap (λ (x : Frame). x.stage) top.here ∙ stage) in
    let r = b.seek_again l (omega arith) in
    let p : learnable before * suc question_turns ≡ learnable after * suc question_turns + suc question_turns = more_times (learnable after) (learnable before) (suc question_turns) (spare_less before after l 8 oth one few lv) in
    record {
      bounded = top_bounded fs gs at ((frame_at fs l).row + 1) f b top row dia (λ h. unvisited) (omega arith);
      less = omega arith;
    }
