use Rattle.std.proofs.Common.{◌≡◌, ◌+◌, ◌<◌, ◌≤◌, true, not, ◌&&◌, eqb, ℕ, suc, List, ◌∷◌, length, Option, refl, sym, ap, ◌∙◌, subst, add-one, arith}
use Rattle.std.specs.Prelude.{MatchOption}
use Rattle.atoms.specs.Sets.{has, count_below}
use Rattle.atoms.specs.declared.levels.Level.{Level}
use Rattle.clausal.specs.Clausal.{Orderly}
use Rattle.clausal.specs.States.{fired, literals}
use Rattle.clausal.specs.declared.modal_clauses.ModalClause.{ModalClause}
use Rattle.engine.specs.Steps.{fresh, staged}
use Rattle.engine.specs.Termination.{visits_left, Decreases}
use Rattle.engine.specs.declared.frames.Answer.TheVariants.{Nothing}
use Rattle.engine.specs.declared.frames.Frame.{Frame}
use Rattle.engine.specs.Worlds.{no_frame, frame_at}
use Rattle.engine.proofs.KeepingOn.{visit_keeps}
use Rattle.engine.proofs.Ending.{visit_shallow, visit_fits, visit_decreases}
use Rattle.engine.proofs.Stacked.{Topped}
use Rattle.engine.proofs.Turning.{top_is, top_becomes, put_on}
use Rattle.engine.proofs.steps.visit.Goals as goal
use Rattle.firing.specs.Firing.{AssumesJust}
use Rattle.naming.specs.Tables.{boxes_in}
use Rattle.stack.specs.Entries.{entries_of, slots_of}

pub overflow_add-result : goal.overflow_add-result
overflow_add-result c = omega (arith, visit_fits (entries_of c.args.stack.now) c.args.at c.requires.starts.bounded c.requires.stage)

pub returns : goal.returns
returns c =
    let s = c.args.stack.now in
    let t = c.args.table.now in
    let fs : List Frame = entries_of s in
    let mid : List Frame = entries_of c.replace_top.new.self in
    let gs : List Frame = entries_of c.push.new.self in
    let at = c.args.at in
    let l : ℕ = at.level in
    let b = c.requires.starts.bounded in
    let stage = c.requires.stage in
    let d = c.args.diamond in
    let low = c.requires.next.lowest in
    let listed = c.requires.next.listed in
    let small = c.requires.orderly.small d listed in
    let x = c.unwrap-frame.result in
    let is : x ≡ frame_at fs l = top_is s l c.top.result x c.top.ensures.entries c.unwrap-frame.ensures b.long in
    let unvisited = c.remove.result in
    let under = c.part-under.result in
    let shallow : l < 7 = visit_shallow fs at b stage d.name low.member in
    let kept : length (slots_of c.replace_top.new.self) ≡ length (slots_of s) = c.replace_top.ensures.slots.room in
    let room : 8 ≤ length (slots_of s) = c.requires.starts.room in
    let top : Topped no_frame fs mid l (staged (frame_at fs l) (frame_at fs l).stage unvisited d) =
    top_becomes s l mid x (λ (y : Frame). staged y y.stage unvisited d) b.long is c.replace_top.ensures.entries in
    let child : c.start.result ≡ fresh under (frame_at fs l).row at.count = c.start.ensures ∙ ap (λ (y : Frame). fresh under y.row at.count) is in
    let more : Topped no_frame mid gs (suc l) (fresh under (frame_at fs l).row at.count) =
    subst (Topped no_frame mid gs (suc l)) child (put_on mid gs (length (slots_of c.replace_top.new.self)) (suc l) c.start.result top.long (omega arith) c.push.ensures.entries) in
    let fewer : count_below 64 (has unvisited) + 1 ≡ visits_left (frame_at fs l) =
    subst (λ (y : Frame). has y.unvisited d.name ≡ true → count_below 64 (has unvisited) + 1 ≡ visits_left y) is c.remove.ensures.fewer low.member in
    let next : (c.unwrap-3.result ≡ l + 1) × (l < 7) = subst (λ (o : Option Level). MatchOption o (7 ≤ l) (λ k. (k ≡ l + 1) × (l < 7))) c.unwrap-3.ensures c.next.ensures in
    let here : frame_at gs c.unwrap-3.result ≡ fresh under (frame_at fs l).row at.count = ap (frame_at gs) (next.0 ∙ add-one l) ∙ more.here in
    λ es sheet. record {
      ends = subst (λ (k : ℕ). Decreases es fs at es gs (record { level = k; count = at.count + 1; answer = Nothing })) (sym next.0) (visit_decreases fs at b stage es mid gs d.name unvisited d under low.member fewer small.0 small.1 top more);
      keeps =
          visit_keeps t es fs gs sheet at unvisited d under c.unwrap-3.result (at.count + 1) stage c.requires.ready (subst (Orderly l) c.boxes.ensures.value c.boxes.ensures.orderly) c.requires.orderly c.requires.next
          (subst (λ (y : Frame). (i : ℕ) → has unvisited i ≡ has y.unvisited i && not (eqb d.name i)) is c.remove.ensures.rest)
          (subst (λ (y : Frame). AssumesJust under (d.literal ∷ literals (fired (has y.valuation) (boxes_in t l)))) is (subst (λ (bs : List ModalClause). AssumesJust under (d.literal ∷ literals (fired (has x.valuation) bs))) c.boxes.ensures.value c.part-under.ensures))
          (λ k h. more.below k (omega arith) ∙ top.below k h)
          (more.below l (omega arith) ∙ top.here)
          here next.0 refl;
      room = c.push.ensures.slots.room ∙ kept;
    }
