use Rattle.std.proofs.Common.{◌≡◌, true, List, [], length, sym, refl, ap, ◌∙◌, subst, arith, length-append}
use Rattle.modal.specs.Rows.{lawful}
use Rattle.modal.specs.declared.row.Row.{Row}
use Rattle.naming.specs.Walk.{WalkInvariant}
use Rattle.std.proofs.lemmas.Bool.{ltb-false}
use Rattle.std.proofs.lemmas.List.{nil_from_length}
use Rattle.stack.specs.Entries.{entries_of}
use Rattle.clausal.proofs.Rows.{lawful_rows}
use Rattle.naming.proofs.Marking.{marks_le}
use Rattle.naming.proofs.Walking.{begun_by, ended_by, visits, turn_small, turn_row, turn_due}
use Rattle.naming.proofs.reached.ReachedRule.new.Goals as goal

pub loop-n-init : goal.loop-n-init
loop-n-init c =
    let v = c.visit.ensures in
    let good = subst (λ (z : List Row). lawful z ≡ true) (sym c.rows-rows.ensures.value) c.rows-rows.ensures.lawful in
    let w = visits _ (lawful_rows _ good) _ _ _ _ _ _ v.marks v.todo (begun_by _ _ c.new.ensures.entries) in
    record { walk = subst (λ (z : List Row). WalkInvariant z [] c.visit.new.self.marks (entries_of c.visit.new.self.todo)) (sym v.rows) w; rows = refl }

pub place_of-requires : goal.place_of-requires
place_of-requires c = turn_small _ (lawful_rows _ c.loop-n.walk.lawful) _ _ _ _ _ c.in-Some.ensures.entries c.from.ensures c.loop-n.invariant.walk

pub follow-requires-clause-row : goal.follow-requires-clause-row
follow-requires-clause-row c = turn_row _ (lawful_rows _ c.loop-n.walk.lawful) _ _ _ _ _ c.in-Some.ensures.entries c.from.ensures c.loop-n.invariant.walk _ c.place_of.ensures.value

pub follow-requires-clause-due : goal.follow-requires-clause-due
follow-requires-clause-due c = turn_due _ (lawful_rows _ c.loop-n.walk.lawful) _ _ _ _ _ c.in-Some.ensures.entries c.from.ensures c.loop-n.invariant.walk _ c.place_of.ensures.value

pub loop-n-preserved : goal.loop-n-preserved
loop-n-preserved c =
    let v = c.follow.ensures in
    record { walk = subst (λ (z : List Row). WalkInvariant z [] c.follow.new.self.marks (entries_of c.follow.new.self.todo)) (sym v.rows) v.walk; rows = v.rows ∙ c.loop-n.invariant.rows }

pub loop-n-smaller : goal.loop-n-smaller
loop-n-smaller c =
    let h = c.in-Some.ensures in
    let a = marks_le c.follow.new.self.marks in
    let b = ap length h.entries ∙ length-append (entries_of c.pop.new.self) _ in
    omega (arith, c.follow.ensures.count, c.follow.ensures.walk.size)

pub invariant_of-result : goal.invariant_of-result
invariant_of-result c =
    let h = c.in_default.ensures in
    let a = ltb-false 0 (length (entries_of c.loop-n.walk.todo)) (sym h.some) in
    record { lawful = c.loop-n.walk.lawful; reached = ended_by _ (lawful_rows _ c.loop-n.walk.lawful) _ _ (nil_from_length _ (omega (arith, a))) c.loop-n.invariant.walk }
