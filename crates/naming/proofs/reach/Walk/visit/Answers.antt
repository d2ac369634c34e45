use Rattle.std.proofs.Common.{◌≡◌, ℕ, ◌<◌, Bool, false, cond, List, [], ◌∷◌, ◌++◌, length, get_or, sym, ap, ◌∙◌, arith, length-append}
use Rattle.stack.specs.Entries.{entries_of, slots_of}
use Rattle.fixed_list.proofs.Counted.{accepted}
use Rattle.naming.proofs.Marking.{marks_lt, marks_more, todo_pushed}
use Rattle.naming.proofs.reach.Walk.visit.Goals as goal

-- the number, as the place has it
held : (b : Bool) (s t : List ℕ) (n k : ℕ) → b ≡ false → n ≡ k → t ≡ s ++ n ∷ [] → t ≡ cond b s (s ++ k ∷ [])
held b s t n k e q p = rw (e, ← q) p

pub invariant_of-self : goal.invariant_of-self
invariant_of-self c =
    let w = c.args.self.now in
    let h : c.number-n.result < length w.marks = omega arith in
    let e : length (slots_of w.todo) ≡ length w.marks = omega (arith, w.slots) in
    let p = ap length (todo_pushed w.marks c.number-n.result (entries_of w.todo) _ (slots_of w.todo) h c.if-not-self-n.true e w.room c.push.ensures.entries) ∙ length-append (entries_of w.todo) _ in
    let a = marks_more w.marks c.number-n.result h c.if-not-self-n.true in
    record { lawful = w.lawful; slots = c.push.ensures.slots.room ∙ w.slots; room = omega (arith, w.room) }

pub returns-then-not-self-n-clause-todo : goal.returns-then-not-self-n-clause-todo
returns-then-not-self-n-clause-todo c =
    let w = c.args.self.now in
    let h : c.number-n.result < length w.marks = omega arith in
    let e : length (slots_of w.todo) ≡ length w.marks = omega (arith, w.slots) in
    held _ _ _ c.number-n.result _ (ap (λ n. get_or w.marks n false) (sym c.number-n.ensures.value) ∙ c.if-not-self-n.true) c.number-n.ensures.value (todo_pushed w.marks c.number-n.result (entries_of w.todo) _ (slots_of w.todo) h c.if-not-self-n.true e w.room c.push.ensures.entries)

pub returns-then-not-self-n-clause-count : goal.returns-then-not-self-n-clause-count
returns-then-not-self-n-clause-count c =
    let w = c.args.self.now in
    let h : c.number-n.result < length w.marks = omega arith in
    let e : length (slots_of w.todo) ≡ length w.marks = omega (arith, w.slots) in
    let p = ap length (todo_pushed w.marks c.number-n.result (entries_of w.todo) _ (slots_of w.todo) h c.if-not-self-n.true e w.room c.push.ensures.entries) ∙ length-append (entries_of w.todo) _ in
    let a = marks_more w.marks c.number-n.result h c.if-not-self-n.true in
    omega arith

pub unwrap-requires : goal.unwrap-requires
unwrap-requires c =
    let w = c.args.self.now in
    let h : c.number-n.result < length w.marks = omega arith in
    let k = marks_lt w.marks c.number-n.result h c.if-not-self-n.true in
    accepted _ _ _ _ _ c.push.ensures.answer (omega (arith, w.room, w.slots))
