-- What a session holds, as contracts say it: its fields are its own.
use Rattle.clausal.specs.States.{State}
use Rattle.naming.specs.Tables.{view_of}
use Rattle.naming.specs.declared.table.Table.{Table}
use Rattle.oracle.specs.Oracles.{Lists}
use Rattle.session.specs.declared.session.Session.{Session}

-- the table of its rules
abbrev pub table_of : {O : Type 0} → Session O → Table
table_of s = s.table

-- the lists of its oracle, by what a value of the oracle's type means
abbrev pub lists_of : {O : Type 0} → (O → Lists) → Session O → Lists
lists_of entries s = entries s.oracle

-- its state in the words of the logic
abbrev pub view : {O : Type 0} → (O → Lists) → Session O → State
view entries s = view_of (table_of s) (lists_of entries s)
