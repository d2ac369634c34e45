use Rattle.std.proofs.Common.{ℕ, [], ◌∷◌, sym, subst, arith}
use Rattle.stack.specs.Entries.{entries_of}
use Rattle.lists.specs.Lists.{here}
use Rattle.naming.proofs.Places.{within}
use Rattle.naming.specs.Walk.{WalkInvariant}
use Rattle.clausal.proofs.Rows.{lawful_rows}
use Rattle.naming.proofs.Walking.{due_none, due_not, due_two, due_modal, visits}
use Rattle.naming.proofs.reach.Walk.follow.Goals as goal

pub returns-in-False-clause-walk : goal.returns-in-False-clause-walk
returns-in-False-clause-walk c = due_none _ c.args.place _ _ c.requires.row _ c.from.ensures c.requires.due c.in-False.is

pub returns-in-Not-clause-walk : goal.returns-in-Not-clause-walk
returns-in-Not-clause-walk c =
    let v = c.visit.ensures in
    visits _ (lawful_rows _ c.args.self.now.lawful) _ _ _ _ _ _ v.marks v.todo (due_not _ c.args.place _ _ c.requires.row _ c.from.ensures c.requires.due _ c.in-Not.is)

pub returns-in-Some-clause-walk : goal.returns-in-Some-clause-walk
returns-in-Some-clause-walk c =
    let v = c.visit-in-Some.ensures in
    let w = due_modal _ c.args.place _ _ c.requires.row _ c.from.ensures c.requires.due _ c.in-Box.is in
    let x = subst (λ (l : ℕ). WalkInvariant c.args.self.now.rows.now (record { row = c.in-Box.c; plus = c.args.place.plus; level = l } ∷ []) c.args.self.now.marks (entries_of c.args.self.now.todo)) (sym c.in-Some.ensures.0) w in
    visits _ (lawful_rows _ c.args.self.now.lawful) _ _ _ _ _ _ v.marks v.todo x

pub returns-in_default-clause-walk : goal.returns-in_default-clause-walk
returns-in_default-clause-walk c =
    let w = due_modal _ c.args.place _ _ c.requires.row _ c.from.ensures c.requires.due _ c.in-Box.is in
    let f = (within _ (lawful_rows _ c.args.self.now.lawful) (w.due _ here)).level in
    absurd (omega (arith, c.in_default.ensures))

pub returns-in-And-clause-walk : goal.returns-in-And-clause-walk
returns-in-And-clause-walk c =
    let v = c.visit-in-And.ensures in
    let u = c.visit-in-And-2.ensures in
    let w = due_two _ c.args.place _ _ c.requires.row _ c.from.ensures c.requires.due _ _ c.in-And.is in
    let x = visits _ (lawful_rows _ c.args.self.now.lawful) _ _ _ _ _ _ v.marks v.todo w in
    visits _ (lawful_rows _ c.args.self.now.lawful) _ _ _ _ _ _ u.marks u.todo x
