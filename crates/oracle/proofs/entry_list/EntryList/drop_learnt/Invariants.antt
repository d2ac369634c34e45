use Rattle.std.proofs.Common.{◌≡◌, map}
use Rattle.fixed_list.specs.Items.{items_of}
use Rattle.oracle.proofs.entry_list.EntryList.drop_learnt.Given as goal

abbrev pub invariant-loop-entry : goal.invariant-loop-entry
invariant-loop-entry l = items_of l.kept ≡ map (λ e. e.now) l.yielded
