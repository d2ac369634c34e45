use Rattle.std.proofs.Common.{◌≡◌, ℕ, List, subst}
use Rattle.clausal.specs.declared.modal_clauses.ModalClause.{ModalClause}
use Rattle.engine.specs.Pending.{NoneNext}
use Rattle.engine.specs.Steps.{staged}
use Rattle.engine.specs.declared.frames.Frame.{Frame}
use Rattle.engine.specs.declared.frames.Stage.TheVariants.{Settled}
use Rattle.engine.specs.Worlds.{no_frame, frame_at}
use Rattle.engine.proofs.KeepingOn.{settle_keeps}
use Rattle.engine.proofs.Ending.{settle_decreases}
use Rattle.engine.proofs.Stacked.{Topped}
use Rattle.engine.proofs.Turning.{top_is, top_becomes}
use Rattle.engine.proofs.steps.descend.Goals as goal
use Rattle.naming.specs.Tables.{diamonds_in}
use Rattle.stack.specs.Entries.{entries_of}

pub returns-in-None : goal.returns-in-None
returns-in-None c =
    let s = c.args.stack.now in
    let t = c.args.table.now in
    let fs : List Frame = entries_of s in
    let gs : List Frame = entries_of c.replace_top.new.self in
    let at = c.args.at in
    let l : ℕ = at.level in
    let b = c.requires.starts.bounded in
    let x = c.unwrap-frame.result in
    let is : x ≡ frame_at fs l = top_is s l c.top.result x c.top.ensures.entries c.unwrap-frame.ensures b.long in
    let top : Topped no_frame fs gs l (staged (frame_at fs l) Settled (frame_at fs l).unvisited (frame_at fs l).diamond) =
    top_becomes s l gs x (λ (y : Frame). staged y Settled y.unvisited y.diamond) b.long is c.replace_top.ensures.entries in
    let none : NoneNext (diamonds_in t l) (frame_at fs l).unvisited =
    subst (λ (ds : List ModalClause). NoneNext ds (frame_at fs l).unvisited) c.diamonds.ensures.value (subst (λ (y : Frame). NoneNext c.diamonds.result.now y.unvisited) is c.in-None.ensures) in
    λ es sheet. record {
      ends = settle_decreases fs at b c.requires.stage es gs top;
      keeps = settle_keeps t es fs gs sheet at c.requires.stage c.requires.ready none top.below top.here;
      room = c.replace_top.ensures.slots.room;
    }
