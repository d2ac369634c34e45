-- The entries that the search oracle holds.
use Rattle.std.specs.Prelude.{ℕ, List}
use Rattle.atoms.specs.declared.clauses.Entry.{Entry}
use Rattle.oracle.specs.Stores.{entries_of}
use Rattle.search.specs.declared.Searcher.{Searcher}

abbrev pub searcher_entries : Searcher → ℕ → List Entry
searcher_entries s = entries_of s.store
