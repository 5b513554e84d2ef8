-- A programmer's table, and the types of what is on its shelves.
use Rattle.std.specs.Prelude.{◌<◌, List, [], length, Some, None, Option, All}
use Rattle.std.specs.Option.{ForSome}
use Rattle.tables.specs.declared.listing.Entry.{Entry}
use Rattle.judge.specs.declared.table.Table.{Table}
use Rattle.programmer.specs.Entries.{listed_entries}
use Rattle.programmer.specs.declared.adopted.Adopted.{Adopted}
use Rattle.programmer.specs.declared.shelf.Stored.{Stored}

-- the table that it has adopted
abbrev pub table_of : Option Adopted → Option Table
table_of None = None
table_of (Some a) = Some a.table

-- the entries of its table; none without a table
abbrev pub entries_in : Option Table → List Entry
entries_in None = []
entries_in (Some t) = listed_entries t

-- each value on the shelves is of a type that the table lists
abbrev pub OfTable : Option Table → List (Option Stored) → Type 0
OfTable t ss = All (λ s. ForSome s (λ w. w.type_number < length (entries_in t))) ss
