use Rattle.std.proofs.Common.{rules, tests, ◌*◌, length, sym, refl, ap, ◌∙◌, arith}
use Rattle.std.proofs.lemmas.Bool.{eq-eqb, eqb-true, cond-true}
use Rattle.std.proofs.lemmas.Iterator.Consumers.{YieldsList-at, YieldsList-turn, YieldsList-end}
use Rattle.std.proofs.lemmas.List.{map-id}
use Rattle.fixed_list.proofs.Counted.{accepted}
use Rattle.clausal.specs.declared.names.Name.TheVariants.{Place}
use Rattle.clausal.specs.declared.places.Place.{Place as Spot}
use Rattle.clausal.proofs.Rows.{lawful_rows}
use Rattle.naming.proofs.Growing.{pushed_on, grown_more, grown_count, grown_handle, grown_places, named_places_come, named_place_small}
use Rattle.naming.proofs.NamedPlaces.{names_counted}
use Rattle.naming.proofs.reached.ReachedRule.name_level.Goals as goal

pub place_of-place-requires : goal.place_of-place-requires
place_of-place-requires c =
    let rows = c.args.self.now.rows.now in
    let t = YieldsList-turn (YieldsList-at c.into_iter-n-iterator.ensures.into_iter_gives (named_places_come _ rows c.args.level _ (ap (λ n. n * 128) c.from-first.ensures.0) c.filter-n-items.ensures.source c.filter-n-items.ensures.closure (λ x r q k. search (rules, tests))))
    c.loop-n.yielded _ c.loop-n.yielded_by _ _ _ c.in-Some.is c.next.ensures.steps in
    named_place_small rows c.args.level (length c.loop-n.yielded) c.in-Some.n (omega arith) t.0 t.1

pub unwrap-requires : goal.unwrap-requires
unwrap-requires c =
    let rows = c.args.self.now.rows.now in
    let t = YieldsList-turn (YieldsList-at c.into_iter-n-iterator.ensures.into_iter_gives (named_places_come _ rows c.args.level _ (ap (λ n. n * 128) c.from-first.ensures.0) c.filter-n-items.ensures.source c.filter-n-items.ensures.closure (λ x r q k. search (rules, tests))))
    c.loop-n.yielded _ c.loop-n.yielded_by _ _ _ c.in-Some.is c.next.ensures.steps in
    let a = grown_count _ _ _ _ c.loop-n.invariant in
    let d = names_counted rows (lawful_rows _ c.args.self.now.lawful) c.args.level _ refl in
    accepted _ _ _ _ _ c.push.ensures.answer (omega (arith, c.requires, t.0))

pub loop-n-preserved : goal.loop-n-preserved
loop-n-preserved c =
    grown_more _ _ _ _ c.loop-n.invariant _ _ _ (pushed_on _ _ _ 48 _ _ c.push.ensures.answer c.unwrap.ensures c.push.ensures.items) (ap (λ (p : Spot). Place c.args.self.now.number p.row p.plus) c.place_of-place.ensures.value)

pub unwrap-requires-then-eq : goal.unwrap-requires-then-eq
unwrap-requires-then-eq c =
    let rows = c.args.self.now.rows.now in
    let t = YieldsList-end (YieldsList-at c.into_iter-n-iterator.ensures.into_iter_gives (named_places_come _ rows c.args.level _ (ap (λ n. n * 128) c.from-first.ensures.0) c.filter-n-items.ensures.source c.filter-n-items.ensures.closure (λ x r q k. search (rules, tests))))
    c.loop-n.yielded _ c.loop-n.yielded_by _ _ c.in-None.is c.next.ensures.steps in
    let a = grown_count _ _ _ _ c.loop-n.invariant in
    let e = eqb-true c.args.level 0 (sym c.if-eq.ensures) in
    let d = names_counted rows (lawful_rows _ c.args.self.now.lawful) c.args.level 1 (sym (cond-true _ _ _ (eq-eqb _ _ e))) in
    accepted _ _ _ _ _ c.push-then-eq.ensures.answer (omega (arith, c.requires, t.1))

pub returns-then-eq : goal.returns-then-eq
returns-then-eq c =
    let t = YieldsList-end (YieldsList-at c.into_iter-n-iterator.ensures.into_iter_gives (named_places_come _ c.args.self.now.rows.now c.args.level _ (ap (λ n. n * 128) c.from-first.ensures.0) c.filter-n-items.ensures.source c.filter-n-items.ensures.closure (λ x r q k. search (rules, tests))))
    c.loop-n.yielded _ c.loop-n.yielded_by _ _ c.in-None.is c.next.ensures.steps in
    grown_handle _ _ _ _ c.loop-n.invariant _ c.args.level _ (sym (map-id _) ∙ t.0) (eqb-true c.args.level 0 (sym c.if-eq.ensures)) (pushed_on _ _ _ 48 _ _ c.push-then-eq.ensures.answer c.unwrap-then-eq.ensures c.push-then-eq.ensures.items)

pub returns-else-eq : goal.returns-else-eq
returns-else-eq c =
    let t = YieldsList-end (YieldsList-at c.into_iter-n-iterator.ensures.into_iter_gives (named_places_come _ c.args.self.now.rows.now c.args.level _ (ap (λ n. n * 128) c.from-first.ensures.0) c.filter-n-items.ensures.source c.filter-n-items.ensures.closure (λ x r q k. search (rules, tests))))
    c.loop-n.yielded _ c.loop-n.yielded_by _ _ c.in-None.is c.next.ensures.steps in
    grown_places _ _ _ _ c.loop-n.invariant _ c.args.level (sym (map-id _) ∙ t.0) (sym c.if-eq.ensures)
