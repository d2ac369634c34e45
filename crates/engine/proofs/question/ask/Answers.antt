use Rattle.std.proofs.Common.{◌≡◌, ℕ, cond, ltb, List, [], ◌∷◌, ◌++◌, length, take, sym, ap, ◌∙◌, subst, arith}
use Rattle.atoms.specs.declared.assumptions.Assumptions.{Assumptions}
use Rattle.engine.specs.Steps.{fresh, outset}
use Rattle.engine.specs.Termination.{Bounded}
use Rattle.engine.specs.declared.frames.Frame.{Frame}
use Rattle.engine.specs.Worlds.{frame_at}
use Rattle.engine.proofs.Asking.{questioned}
use Rattle.engine.proofs.Ending.{first_bounded}
use Rattle.engine.proofs.Turning.{put_first}
use Rattle.engine.proofs.question.ask.Goals as goal
use Rattle.stack.specs.Entries.{entries_of, slots_of}

-- the stack holds the first world alone
first_alone : (slots after : List Frame) (n k : ℕ) (under : Assumptions) (f : Frame) → take n slots ≡ [] → length slots ≡ 8 → f ≡ fresh under 0 0 → take k after ≡ cond (ltb (length (take n slots)) (length slots)) (take n slots ++ f ∷ []) (take n slots) → take k after ≡ fresh under 0 0 ∷ []
first_alone slots after n k under f none room is put = put_first (take n slots) (take k after) (length slots) f none (omega arith) put ∙ ap (λ (g : Frame). g ∷ []) is

pub run-outcome-requires : goal.run-outcome-requires
run-outcome-requires g c =
    let s = c.new-stack.result in
    let p = c.push.new.self in
    let room : length (slots_of p) ≡ length (slots_of s) = c.push.ensures.slots.room in
    let eight : length (slots_of s) ≡ 8 = ap length c.new-stack.ensures.same in
    record { starts = record { room = omega arith; bounded = subst (λ (gs : List Frame). Bounded gs outset) (sym (first_alone s.slots.now p.slots.now s.len p.len c.args.under c.start-first.result c.new-stack.ensures.entries (ap length c.new-stack.ensures.same) c.start-first.ensures c.push.ensures.entries)) (first_bounded c.args.under) } }

pub returns : goal.returns
returns g c =
    let s = c.new-stack.result in
    let p = c.push.new.self in
    let alone : entries_of p ≡ fresh c.args.under 0 0 ∷ [] = first_alone s.slots.now p.slots.now s.len p.len c.args.under c.start-first.result c.new-stack.ensures.entries (ap length c.new-stack.ensures.same) c.start-first.ensures c.push.ensures.entries in
    questioned c.args.table.now (g.O.Oracle.entries c.args.oracle.now) (g.O.Oracle.entries c.run-outcome.new.oracle) (entries_of p) (entries_of c.run-outcome.new.stack) c.args.sheet.now c.run-outcome.new.sheet c.tidy.new.sheet c.args.under c.run-outcome.result
    (ap (λ (fs : List Frame). frame_at fs 0) alone) c.run-outcome.ensures.keeps c.run-outcome.ensures.rows c.tidy.ensures
