-- The entries that a store holds.
use Rattle.std.specs.Prelude.{ℕ, List, [], map, slice_index_or}
use Rattle.atoms.specs.declared.clauses.Entry.{Entry}
use Rattle.fixed_list.specs.Items.{items_of}
use Rattle.oracle.specs.declared.entry_list.EntryList.{EntryList}
use Rattle.oracle.specs.declared.store.Store.{Store}

-- the entries of one level
abbrev pub held_of : EntryList → List Entry
held_of r = items_of r.entries

-- the entries of each level, by the lists of the levels
abbrev pub entries_in : List EntryList → ℕ → List Entry
entries_in rs k = slice_index_or (map held_of rs) k []

-- the entries of each level of the store; a number that is no level has none
abbrev pub entries_of : Store → ℕ → List Entry
entries_of s = entries_in s.levels
