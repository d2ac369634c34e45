use Rattle.std.proofs.Common.{refl, ◌≡◌, List, sym, ap, ◌∙◌, subst}
use Rattle.engine.specs.Steps.{popped}
use Rattle.engine.specs.Termination.{TurnDecreases}
use Rattle.engine.specs.declared.frames.Frame.{Frame}
use Rattle.engine.specs.declared.frames.Answer.TheVariants.{Open}
use Rattle.engine.specs.declared.frames.Stage.TheVariants.{Settled}
use Rattle.engine.specs.declared.outcome.Outcome.TheVariants.{Open as opened}
use Rattle.engine.specs.Worlds.{frame_at}
use Rattle.engine.proofs.KeepingBack.{leave_keeps}
use Rattle.engine.proofs.Ending.{leave_decreases}
use Rattle.engine.proofs.Turning.{top_is}
use Rattle.engine.proofs.steps.step.Goals as goal
use Rattle.stack.specs.Entries.{entries_of}

pub returns-in-Descending-Nothing : goal.returns-in-Descending-Nothing
returns-in-Descending-Nothing g c =
    let es = g.O.Oracle.entries c.args.oracle.now in
    c.descend.ensures es c.args.sheet.now

pub returns-in-Descending-Closed : goal.returns-in-Descending-Closed
returns-in-Descending-Closed g c = c.learn.ensures c.args.sheet.now

pub returns-in-Settled-default : goal.returns-in-Settled-default
returns-in-Settled-default g c =
    let es = g.O.Oracle.entries c.args.oracle.now in
    let s = c.args.stack.now in
    let t = c.args.table.now in
    let fs : List Frame = entries_of s in
    let gs : List Frame = entries_of c.leave.new.stack in
    let at = c.args.at in
    let b = c.requires.starts.bounded in
    let f = c.leave.ensures in
    let is : c.unwrap-frame.result ≡ frame_at fs at.level = top_is s at.level c.top.result c.unwrap-frame.result c.top.ensures.entries c.unwrap-frame.ensures b.long in
    let stage : (frame_at fs at.level).stage ≡ Settled = sym (ap (λ (y : Frame). y.stage) is) ∙ c.in-Settled-default.is-0 in
    record {
      ends = subst (λ (q : List Frame). TurnDecreases es fs at es q c.leave.result) (sym f.frames) (subst (TurnDecreases es fs at es (popped at fs)) (sym f.turn) (leave_decreases es es fs at Open (opened at.count) b (λ k. refl) (λ k h. tt)));
      keeps = leave_keeps t es fs gs c.args.sheet.now at c.leave.result b.descending stage f.frames f.turn;
      room = f.room;
    }
