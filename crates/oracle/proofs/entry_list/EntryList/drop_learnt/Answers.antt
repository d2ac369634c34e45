use Rattle.std.proofs.Common.{rules, tests, ◌≡◌, length, ap, ◌∙◌, arith}
use Rattle.std.proofs.lemmas.Iterator.{YieldsList-from_slice}
use Rattle.std.proofs.lemmas.Iterator.Consumers.{YieldsList-at, YieldsList-from_filter, YieldsList-turn, YieldsList-end}
use Rattle.std.proofs.lemmas.List.{length-map}
use Rattle.atoms.specs.Clauses.{is_definition, definitions, learnt}
use Rattle.fixed_list.specs.Items.{items_of}
use Rattle.fixed_list.proofs.Counted.{accepted, length_items}
use Rattle.lists.proofs.Members.{kept_twice}
use Rattle.atoms.proofs.Marked.{none_learnt}
use Rattle.oracle.proofs.Storing.{counted}
use Rattle.oracle.proofs.entry_list.EntryList.drop_learnt.Goals as goal

pub unwrap-requires : goal.unwrap-requires
unwrap-requires c =
    let turn =
    YieldsList-turn
    (YieldsList-at c.into_iter-entry-iterator.ensures.into_iter_gives
    (YieldsList-from_filter _ is_definition
    (YieldsList-at c.filter-entry-items.ensures.source (YieldsList-from_slice (items_of c.args.self.now.entries) cc))
    c.filter-entry-items.ensures.closure (λ x r q k. search (rules, tests))))
    c.loop-entry.yielded _ c.loop-entry.yielded_by _ _ _ c.in-Some.is c.next.ensures.steps in
    accepted _ _ _ _ _ c.push.ensures.answer
    (omega (arith, turn.0, counted (items_of c.args.self.now.entries), ap length c.loop-entry.invariant, length-map c.loop-entry.yielded (λ e. e.now), length_items c.args.self.now.entries))

pub invariant_of-self : goal.invariant_of-self
invariant_of-self c =
    let e : items_of c.loop-entry.kept ≡ definitions (items_of c.args.self.now.entries) =
    c.loop-entry.invariant ∙
    (YieldsList-end
    (YieldsList-at c.into_iter-entry-iterator.ensures.into_iter_gives
    (YieldsList-from_filter _ is_definition
    (YieldsList-at c.filter-entry-items.ensures.source (YieldsList-from_slice (items_of c.args.self.now.entries) cc))
    c.filter-entry-items.ensures.closure (λ x r q k. search (rules, tests))))
    c.loop-entry.yielded _ c.loop-entry.yielded_by _ _ c.in-None.is c.next.ensures.steps).0 in
    record {
      definitions_counted = ap (λ xs. length (definitions xs)) e ∙ ap length (kept_twice is_definition (items_of c.args.self.now.entries)) ∙ c.args.self.now.definitions_counted;
      learnt_counted = ap (λ xs. length (learnt xs)) e ∙ ap length (none_learnt (items_of c.args.self.now.entries));
      definitions_few = c.args.self.now.definitions_few;
      learnt_few = omega arith;
    }

pub returns : goal.returns
returns c =
    c.loop-entry.invariant ∙
    (YieldsList-end
    (YieldsList-at c.into_iter-entry-iterator.ensures.into_iter_gives
    (YieldsList-from_filter _ is_definition
    (YieldsList-at c.filter-entry-items.ensures.source (YieldsList-from_slice (items_of c.args.self.now.entries) cc))
    c.filter-entry-items.ensures.closure (λ x r q k. search (rules, tests))))
    c.loop-entry.yielded _ c.loop-entry.yielded_by _ _ c.in-None.is c.next.ensures.steps).0
