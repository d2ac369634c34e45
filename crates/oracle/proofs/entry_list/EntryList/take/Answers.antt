use Rattle.std.proofs.Common.{rules, ◌≡◌, ◌<◌, true, length, arith}
use Rattle.std.proofs.lemmas.Bool.Decides.{nat_tests}
use Rattle.atoms.specs.declared.clauses.Mark.{Mark}
use Rattle.atoms.specs.declared.clauses.Mark.TheVariants.{Definition, Learnt}
use Rattle.oracle.specs.Oracles.{room}
use Rattle.oracle.specs.Stores.{held_of}
use Rattle.oracle.specs.declared.entry_list.EntryList.{EntryList}
use Rattle.fixed_list.proofs.Counted.{accepted}
use Rattle.oracle.proofs.Storing.{counted}
use Rattle.oracle.proofs.entry_list.EntryList.take.Goals as goal

-- where there is room for an entry there is a slot
inside : (r : EntryList) (m : Mark) → room m (held_of r) ≡ true → length (held_of r) < 225
inside r Definition h = let s = r.learnt_few in grind (arith, nat_tests, counted (held_of r), r.learnt_counted)
inside r Learnt h = let s = r.definitions_few in grind (arith, nat_tests, counted (held_of r), r.definitions_counted)

pub unwrap-requires : goal.unwrap-requires
unwrap-requires c = accepted _ _ _ _ _ c.push.ensures.answer (inside c.args.self.now c.args.entry.mark (search rules))
