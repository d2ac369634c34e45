-- The entries that the plain oracle holds.
use Rattle.std.specs.Prelude.{ℕ, List}
use Rattle.atoms.specs.declared.clauses.Entry.{Entry}
use Rattle.oracle.specs.Stores.{entries_of}
use Rattle.plain.specs.declared.Plain.{Plain}

abbrev pub plain_entries : Plain → ℕ → List Entry
plain_entries s = entries_of s.store
