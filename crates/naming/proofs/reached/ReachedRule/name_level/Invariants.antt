use Rattle.std.proofs.Common.{◌≡◌, ◌++◌, map}
use Rattle.fixed_list.specs.Items.{items_of}
use Rattle.naming.specs.Names.{place_name}
use Rattle.naming.proofs.reached.ReachedRule.name_level.Given as goal

abbrev pub invariant-loop-n : goal.invariant-loop-n
invariant-loop-n l = items_of l.names ≡ items_of l.initial.names ++ map (place_name l.self.number) l.yielded
