use Rattle.std.proofs.Common.{rules, tests, ◌+◌, ap, sym, ◌∙◌}
use Rattle.std.specs.Option.{option_map}
use Rattle.std.proofs.lemmas.Iterator.{YieldsList-from_slice}
use Rattle.std.proofs.lemmas.Iterator.Search.{position_from_yields_List}
use Rattle.fixed_list.specs.Items.{items_of}
use Rattle.naming.specs.Names.{same_name}
use Rattle.naming.proofs.names.atom_of.Goals as goal

pub returns-in_err-slot : goal.returns-in_err-slot
returns-in_err-slot c =
    let e = position_from_yields_List (same_name c.args.name) _ _ c.position.result c.position.ensures.ran (YieldsList-from_slice (items_of c.args.names.now) cc) (λ x b q k. search (rules, tests)) in
    c.from_residual.ensures ∙ ap (option_map (λ i. 16 + i)) (sym c.in_err-slot.was ∙ e)

pub returns : goal.returns
returns c =
    let e = position_from_yields_List (same_name c.args.name) _ _ c.position.result c.position.ensures.ran (YieldsList-from_slice (items_of c.args.names.now) cc) (λ x b q k. search (rules, tests)) in
    ap (option_map (λ i. 16 + i)) (sym c.in_ok-slot.was ∙ e)
