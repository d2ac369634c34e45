use Rattle.std.proofs.Common.{◌≡◌, ◌+◌, List, ◌++◌, length, get_or, drop, sym, ap, ◌∙◌, subst, arith}
use Rattle.std.proofs.lemmas.List.{length_push}
use Rattle.fixed_list.specs.Items.{items_of}
use Rattle.fixed_list.proofs.Counted.{length_items}
use Rattle.clausal.specs.Clausal.{boxed, diamonded}
use Rattle.clausal.specs.declared.names.Name.{Name}
use Rattle.clausal.specs.declared.names.Name.TheVariants.{Free}
use Rattle.clausal.proofs.Modals.{boxed_one, diamonded_one}
use Rattle.clausal.proofs.Rows.{lawful_rows}
use Rattle.naming.specs.TakenIn.{NameInRule, clauses_of_name, modals_of_name}
use Rattle.naming.proofs.Gathers.{whole_step, whole_end}
use Rattle.naming.proofs.Giving.{longer, modals_of_name_few, clauses_of_name_few}
use Rattle.naming.proofs.Taking.{indexed_come, indexed_turn, indexed_end, name_in_rule, taken_names}
use Rattle.naming.proofs.level_table.LevelTable.take_in.Goals as goal

pub give-requires-clause-name : goal.give-requires-clause-name
give-requires-clause-name c =
    let r = c.args.rule.now in
    let come = indexed_come c.len-from.result (items_of c.name_level.new.names) (cc) c.enumerate.ensures.source (cc) c.skip-i-items.ensures.source (cc) c.into_iter-i-iterator.ensures.into_iter_gives in
    let item = indexed_turn c.len-from.result (items_of c.name_level.new.names) _ _ come c.loop-i.yielded c.loop-i.yielded_by c.next.ensures.steps (c.in-Some.i, c.in-Some.name) Free c.in-Some.is in
    let e = taken_names (items_of c.args.self.now.names) (items_of c.name_level.new.names) _ _ c.len-from.ensures.count c.name_level.ensures in
    subst (NameInRule r.rows.now) (ap (λ (xs : List Name). get_or xs (length c.loop-i.yielded) Free) (sym e) ∙ item.2) (name_in_rule r.number r.rows.now (lawful_rows _ r.lawful) c.args.level (length c.loop-i.yielded))

pub loop-i-preserved : goal.loop-i-preserved
loop-i-preserved c =
    let r = c.args.rule.now in
    let come = indexed_come c.len-from.result (items_of c.name_level.new.names) (cc) c.enumerate.ensures.source (cc) c.skip-i-items.ensures.source (cc) c.into_iter-i-iterator.ensures.into_iter_gives in
    let item = indexed_turn c.len-from.result (items_of c.name_level.new.names) _ _ come c.loop-i.yielded c.loop-i.yielded_by c.next.ensures.steps (c.in-Some.i, c.in-Some.name) Free c.in-Some.is in
    let from = c.len-from.result in
    let i = length c.loop-i.yielded in
    let names = c.name_level.new.names in
    let further = items_of c.args.further.now in
    let xs : List Name = drop from (items_of names) in
    let x = c.in-Some.name.now in
    let n : 16 + c.in-Some.i ≡ 16 + (from + i) = ap (λ k. 16 + k) item.1 in
    let q : items_of c.give.new.definitions ≡ items_of c.loop-i.definitions ++ clauses_of_name (items_of names) r.number r.rows.now (16 + (from + i)) x = rw (c.loop-i.invariant.names, n) at c.give.ensures.definitions in
    let b : items_of c.give.new.self.boxes ≡ items_of c.loop-i.self.boxes ++ modals_of_name boxed further r.number r.rows.now (16 + (from + i)) x = rw n at c.give.ensures.boxes in
    let d : items_of c.give.new.self.diamonds ≡ items_of c.loop-i.self.diamonds ++ modals_of_name diamonded further r.number r.rows.now (16 + (from + i)) x = rw n at c.give.ensures.diamonds in
    rw (length_push c.loop-i.yielded (c.in-Some.i, c.in-Some.name)) (record {
      names = c.give.ensures.names ∙ c.loop-i.invariant.names;
      definitions = whole_step (clauses_of_name (items_of names) r.number r.rows.now) from xs i _ _ c.loop-i.invariant.definitions x _ item.0 item.2 q;
      boxes = whole_step (modals_of_name boxed further r.number r.rows.now) from xs i _ _ c.loop-i.invariant.boxes x _ item.0 item.2 b;
      diamonds = whole_step (modals_of_name diamonded further r.number r.rows.now) from xs i _ _ c.loop-i.invariant.diamonds x _ item.0 item.2 d;
      few_definitions = omega (arith, c.loop-i.invariant.few_definitions, longer (items_of c.loop-i.definitions) (items_of c.give.new.definitions) _ 2 q (clauses_of_name_few (items_of names) r.number r.rows.now (16 + (from + i)) x));
      few_boxes = omega (arith, c.loop-i.invariant.few_boxes, longer (items_of c.loop-i.self.boxes) (items_of c.give.new.self.boxes) _ 1 b (modals_of_name_few boxed boxed_one further r.number r.rows.now (16 + (from + i)) x));
      few_diamonds = omega (arith, c.loop-i.invariant.few_diamonds, longer (items_of c.loop-i.self.diamonds) (items_of c.give.new.self.diamonds) _ 1 d (modals_of_name_few diamonded diamonded_one further r.number r.rows.now (16 + (from + i)) x));
    })

pub returns : goal.returns
returns c =
    let r = c.args.rule.now in
    let from = c.len-from.result in
    let names = items_of c.name_level.new.names in
    let further = items_of c.args.further.now in
    let come = indexed_come c.len-from.result (items_of c.name_level.new.names) (cc) c.enumerate.ensures.source (cc) c.skip-i-items.ensures.source (cc) c.into_iter-i-iterator.ensures.into_iter_gives in
    let all = indexed_end c.len-from.result (items_of c.name_level.new.names) _ _ come c.loop-i.yielded c.loop-i.yielded_by c.next.ensures.steps c.in-None.is in
    let e = taken_names (items_of c.args.self.now.names) names _ _ c.len-from.ensures.count c.name_level.ensures in
    let f = c.len-from.ensures.count in
    record {
      names = ap items_of c.loop-i.invariant.names ∙ c.name_level.ensures;
      room = omega (arith, length_items c.loop-i.self.names);
      boxes = rw (e, f) at (whole_end (modals_of_name boxed further r.number r.rows.now) from (drop from names) _ _ _ c.loop-i.invariant.boxes all);
      diamonds = rw (e, f) at (whole_end (modals_of_name diamonded further r.number r.rows.now) from (drop from names) _ _ _ c.loop-i.invariant.diamonds all);
      clauses = rw (c.loop-i.invariant.names) (rw (c.requires.none, e, f) at (whole_end (clauses_of_name names r.number r.rows.now) from (drop from names) _ _ _ c.loop-i.invariant.definitions all));
    }
