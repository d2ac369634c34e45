use Rattle.std.proofs.Common.{length, ◌≤◌, ◌≡◌, ◌∙◌, arith}
use Rattle.engine.proofs.question.run.Goals as goal
use Rattle.stack.specs.Entries.{slots_of}

pub loop-next-preserved : goal.loop-next-preserved
loop-next-preserved g c =
    let i = c.loop-next.invariant in
    let s = c.in-Go.ensures in
    let room : length (slots_of c.step.new.stack) ≡ length (slots_of c.loop-next.stack) = s.room in
    let before : 8 ≤ length (slots_of c.loop-next.stack) = i.0.room in
    (record { room = omega arith; bounded = s.ends.bounded }, λ st xs listed h. s.keeps st xs listed (i.1 st xs listed h), c.step.auto.sheet ∙ i.2)

pub returns-in-Done-clause-keeps : goal.returns-in-Done-clause-keeps
returns-in-Done-clause-keeps g c = λ st xs listed h. c.in-Done.ensures.keeps st xs listed (c.loop-next.invariant.1 st xs listed h)
