use Rattle.std.proofs.Common.{◌≡◌, ℕ, Option, ap, ◌∙◌, arith}
use Rattle.std.specs.Option.{unwrap_or}
use Rattle.fixed_list.specs.Items.{items_of}
use Rattle.clausal.specs.Places.{name_in}
use Rattle.naming.proofs.Lookups.{literal_by_row, name_found}
use Rattle.naming.proofs.reached.ReachedRule.+literal.Goals as goal

pub returns-in-And-clause-value : goal.returns-in-And-clause-value
returns-in-And-clause-value t c =
    let n : c.unwrap_or.result ≡ name_in (items_of c.args.names.now) c.args.self.now.number c.args.row c.args.plus = c.unwrap_or.ensures ∙ ap (λ (o : Option ℕ). unwrap_or o 0) c.atom_of.ensures ∙ name_found (items_of c.args.names.now) c.args.self.now.number c.args.row c.args.plus in
    grind (arith, literal_by_row)
