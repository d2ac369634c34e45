use Rattle.std.proofs.Common.{◌≡◌, List, subst, sym, ap, ◌∙◌}
use Rattle.atoms.specs.Sets.{has, letters_of}
use Rattle.clausal.specs.States.{fired}
use Rattle.clausal.specs.declared.modal_clauses.ModalClause.{ModalClause}
use Rattle.engine.specs.Steps.{valued, drawn_at, popped, KeepsAll}
use Rattle.engine.specs.Termination.{TurnDecreases}
use Rattle.engine.specs.declared.frames.Answer.TheVariants.{Nothing, Closed}
use Rattle.engine.specs.declared.frames.Frame.{Frame}
use Rattle.engine.specs.declared.frames.Turn.TheVariants.{Go}
use Rattle.engine.specs.declared.outcome.Outcome.TheVariants.{Closed as closed}
use Rattle.engine.specs.Worlds.{no_frame, frame_at}
use Rattle.engine.proofs.KeepingOn.{seek_keeps}
use Rattle.engine.proofs.KeepingBack.{close_keeps}
use Rattle.engine.proofs.Ending.{seek_decreases, leave_decreases}
use Rattle.engine.proofs.Stacked.{Topped}
use Rattle.engine.proofs.Turning.{top_is, top_becomes, none_named}
use Rattle.engine.proofs.steps.seek.Goals as goal
use Rattle.firing.specs.Firing.{NamesOf}
use Rattle.oracle.specs.Oracles.{Satisfies, Refutes}
use Rattle.sheet.specs.declared.row.SheetRow.{SheetRow}
use Rattle.stack.specs.Entries.{entries_of}

pub returns-in-Err : goal.returns-in-Err
returns-in-Err g c =
    let es = g.O.Oracle.entries c.args.oracle.now in
    let es' = g.O.Oracle.entries c.solve.new.self in
    let s = c.args.stack.now in
    let fs : List Frame = entries_of s in
    let gs : List Frame = entries_of c.leave.new.stack in
    let at = c.args.at in
    let b = c.requires.starts.bounded in
    let x = c.unwrap-frame.result in
    let core = c.in-Err.core in
    let e = c.in-Err.ensures in
    let f = c.leave.ensures in
    let is : x ≡ frame_at fs at.level = top_is s at.level c.top.result x c.top.ensures.entries c.unwrap-frame.ensures b.long in
    record {
      ends = subst (λ (q : List Frame). TurnDecreases es fs at es' q c.leave.result) (sym f.frames) (subst (TurnDecreases es fs at es' (popped at fs)) (sym f.turn) (leave_decreases es es' fs at (Closed core) (closed core) b e.same (λ k h. h)));
      keeps = close_keeps c.args.table.now es es' fs gs c.args.sheet.now at core c.leave.result b.descending c.requires.stage e.same (subst (λ (y : Frame). Refutes (es at.level) y.under core) is e.answer) f.frames f.turn;
      room = f.room;
    }

pub returns-in-Ok : goal.returns-in-Ok
returns-in-Ok g c =
    let es = g.O.Oracle.entries c.args.oracle.now in
    let es' = g.O.Oracle.entries c.solve.new.self in
    let s = c.args.stack.now in
    let t = c.args.table.now in
    let fs : List Frame = entries_of s in
    let gs : List Frame = entries_of c.replace_top.new.self in
    let at = c.args.at in
    let b = c.requires.starts.bounded in
    let x = c.unwrap-frame.result in
    let v = c.in-Ok.valuation in
    let unvisited = c.fired_names-unvisited.result in
    let sheet = c.args.sheet.now in
    let e = c.in-Ok.ensures in
    let is : x ≡ frame_at fs at.level = top_is s at.level c.top.result x c.top.ensures.entries c.unwrap-frame.ensures b.long in
    let top : Topped no_frame fs gs at.level (valued (frame_at fs at.level) v unvisited) =
    top_becomes s at.level gs x (λ (y : Frame). valued y v unvisited) b.long is c.replace_top.ensures.entries in
    let names = c.fired_names-unvisited.ensures in
    record {
      ends = seek_decreases es es' fs gs at b v unvisited c.requires.stage e.same (λ h. none_named unvisited (has v) c.diamonds.result.now names (c.diamonds.ensures.orderly.last h)) top;
      keeps = subst (λ (q : List SheetRow). KeepsAll t es fs sheet at es' gs q (Go (record { level = at.level; count = at.count; answer = Nothing }))) (sym (c.draw.ensures ∙ ap (λ (y : Frame). drawn_at sheet y.row y.parent at.level (letters_of (has v))) is))
          (seek_keeps t es es' fs gs sheet at v unvisited c.requires.stage e.same (subst (λ (y : Frame). Satisfies (es at.level) y.under (has v)) is e.answer) (subst (λ (ds : List ModalClause). NamesOf unvisited (fired (has v) ds)) c.diamonds.ensures.value names) top.below top.here);
      room = c.replace_top.ensures.slots.room;
    }
