use Rattle.std.proofs.Common.{cond, ltb, length, [], ◌∷◌, ◌++◌, ◌≡◌, ◌+◌, ◌<◌, ℕ, List, Ok, Err, refl, ap, sym, subst, arith, le_refl}
use Rattle.atoms.specs.Sets.{has}
use Rattle.clausal.specs.declared.modal_clauses.ModalClause.{ModalClause}
use Rattle.engine.specs.Steps.{fresh}
use Rattle.engine.specs.Termination.{Decreases}
use Rattle.engine.specs.declared.frames.Answer.TheVariants.{Nothing}
use Rattle.engine.specs.declared.frames.Frame.{Frame}
use Rattle.engine.specs.Worlds.{no_frame, frame_at}
use Rattle.engine.proofs.KeepingBack.{full_keeps, learn_keeps}
use Rattle.engine.proofs.Ending.{learn_decreases, learn_fits}
use Rattle.engine.proofs.Stacked.{Topped}
use Rattle.engine.proofs.Turning.{top_is, top_becomes}
use Rattle.engine.proofs.steps.learn.Goals as goal
use Rattle.firing.specs.Firing.{LearntFromCore}
use Rattle.naming.specs.Tables.{boxes_in}
use Rattle.stack.specs.Entries.{entries_of, below_top}

pub overflow_add-result : goal.overflow_add-result
overflow_add-result g c =
    let s = c.args.stack.now in
    let fs : List Frame = entries_of s in
    let is : c.unwrap-frame.result ≡ frame_at fs c.args.at.level = top_is s c.args.at.level c.top.result c.unwrap-frame.result c.top.ensures.entries c.unwrap-frame.ensures c.requires.starts.bounded.long in
    let e = ap (λ (y : Frame). y.row) is in omega (arith, learn_fits fs c.args.at c.requires.starts.bounded)

pub returns-in-Err : goal.returns-in-Err
returns-in-Err g c =
    let fs : List Frame = entries_of c.args.stack.now in
    λ sheet. record { ends = tt; room = refl; keeps = full_keeps c.args.table.now (g.O.Oracle.entries c.args.oracle.now) (g.O.Oracle.entries c.take.new.self) fs fs sheet c.args.at c.args.core c.learnt_clause-clause.result (Err record {}) c.requires.stage c.requires.closed refl c.in-Err.ensures }

pub returns-in-Ok : goal.returns-in-Ok
returns-in-Ok g c =
    let es = g.O.Oracle.entries c.args.oracle.now in
    let es' = g.O.Oracle.entries c.take.new.self in
    let s = c.args.stack.now in
    let t = c.args.table.now in
    let fs : List Frame = entries_of s in
    let gs : List Frame = entries_of c.replace_top.new.self in
    let at = c.args.at in
    let l : ℕ = at.level in
    let b = c.requires.starts.bounded in
    let core = c.args.core in
    let clause = c.learnt_clause-clause.result in
    let taken = c.in-Ok.ensures in
    let x = c.unwrap-frame.result in
    let is : x ≡ frame_at fs l = top_is s l c.top.result x c.top.ensures.entries c.unwrap-frame.ensures b.long in
    let top : Topped no_frame fs gs l (fresh (frame_at fs l).under (frame_at fs l).parent (frame_at fs l).row) =
    top_becomes s l gs x (λ (y : Frame). fresh y.under y.parent y.row) b.long is (subst (λ (z : Frame). gs ≡ cond (ltb 0 (length fs)) (below_top s ++ z ∷ []) fs) c.start.ensures c.replace_top.ensures.entries) in
    let named : x.diamond.name < 64 = subst (λ (y : Frame). y.diamond.name < 64) (sym is) (b.small l (le_refl l)).name in
    let learns : LearntFromCore (boxes_in t l) (has (frame_at fs l).valuation) (frame_at fs l).diamond core clause =
    subst (λ (y : Frame). LearntFromCore (boxes_in t l) (has y.valuation) y.diamond core clause) is
    (subst (λ (bs : List ModalClause). LearntFromCore bs (has x.valuation) x.diamond core clause) c.boxes.ensures.value (c.learnt_clause-clause.ensures c.boxes.ensures.orderly.rising named)) in
    λ sheet. record {
      ends = subst (λ (y : Frame). Decreases es fs at es' gs (record { level = l; count = y.row + 1; answer = Nothing })) (sym is) (learn_decreases es es' fs gs at b clause (Ok c.in-Ok.field-0) refl taken top);
      keeps = learn_keeps t es es' fs gs sheet at core clause (x.row + 1) (Ok c.in-Ok.field-0) c.requires.stage c.requires.closed learns refl taken top.below top.here (ap (λ (y : Frame). y.row + 1) is);
      room = c.replace_top.ensures.slots.room;
    }
