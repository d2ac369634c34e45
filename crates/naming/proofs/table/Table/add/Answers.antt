use Rattle.std.proofs.Common.{◌≡◌, ℕ, ◌<◌, List, ◌++◌, map, Ok, Err, length, sym, ap, ◌∙◌, subst, arith}
use Rattle.modal.specs.declared.row.Row.{Row}
use Rattle.clausal.specs.Adding.{Adds}
use Rattle.clausal.specs.Counting.{add_answer}
use Rattle.clausal.specs.declared.faults.AddFault.TheVariants.{TooManyNames}
use Rattle.naming.specs.Levels.{held_rules}
use Rattle.naming.specs.Tables.{rules_in, definition, definitions_at}
use Rattle.naming.proofs.Answering.{answer_rules, answer_level, answer_added, rooms}
use Rattle.naming.proofs.Contents.{parts_view, rules_length, added_to, lawful_then, named_then, adds_then, boxes_then, diamonds_then}
use Rattle.naming.proofs.TableReads.{boxes_few, diamonds_few}
use Rattle.naming.proofs.table.Table.add.Goals as goal

pub returns-then-number-ge-RULES-clause-answer : goal.returns-then-number-ge-RULES-clause-answer
returns-then-number-ge-RULES-clause-answer c = answer_rules _ _ (omega (arith, rules_length c.args.self.now.rules, c.len-number.ensures.count))

pub returns-in-Some-clause-answer : goal.returns-in-Some-clause-answer
returns-in-Some-clause-answer c =
    let t = c.args.self.now in
    let few : length (held_rules t.rules) < 16 = omega (arith, rules_length t.rules, c.len-number.ensures.count) in
    ap (λ (l : ℕ). Err (TooManyNames l)) c.number.ensures.same ∙ subst (λ (z : List Row). Err (TooManyNames c.in-Some.level) ≡ add_answer (rules_in t) z) (c.new-reached.ensures.rows) (answer_level t c.new-reached.result.rows.now few c.in-Some.level c.in-Some.ensures)

pub take_in-requires : goal.take_in-requires
take_in-requires c =
    let t = c.args.self.now in
    record { room = rooms t c.new-reached.result.rows.now c.in_default.ensures; boxes = boxes_few t; diamonds = diamonds_few t; none = c.none-definitions.ensures }

pub invariant_of-self : goal.invariant_of-self
invariant_of-self c =
    let t = c.args.self.now in
    let a = added_to t c.new-reached.result.rows.now c.push.new.self c.take_in.new.levels _ _ _ c.new-reached.result.lawful (omega (arith, c.len-number.ensures.count)) c.push.ensures.items (c.from.ensures.0 ∙ sym c.new-reached.ensures.rows) (c.new-reached.ensures.number ∙ c.len-number.ensures.count) c.take_in.ensures in
    record { rules_lawful = lawful_then a; named = named_then a; boxes_given = boxes_then a; diamonds_given = diamonds_then a }

pub returns : goal.returns
returns c =
    let t = c.args.self.now in
    let rs = c.push.new.self in
    let ts = c.take_in.new.levels in
    let a = added_to t c.new-reached.result.rows.now rs ts _ _ _ c.new-reached.result.lawful (omega (arith, c.len-number.ensures.count)) c.push.ensures.items (c.from.ensures.0 ∙ sym c.new-reached.ensures.rows) (c.new-reached.ensures.number ∙ c.len-number.ensures.count) c.take_in.ensures in
    let e = c.new-reached.ensures.rows in
    let few : length (held_rules t.rules) < 16 = omega (arith, rules_length t.rules, c.len-number.ensures.count) in
    record {
      answer = subst (λ (z : List Row). Ok c.len-number.result ≡ add_answer (rules_in t) z) e (answer_added t c.new-reached.result.rows.now few c.in_default.ensures c.len-number.result (c.len-number.ensures.count ∙ sym (rules_length t.rules)));
      step = λ es. subst (λ (z : List Row). Adds (parts_view t.rules t.levels es) z (parts_view rs ts (λ l. es l ++ map definition (definitions_at c.take_in.new.definitions l)))) e (adds_then a es);
    }
