-- The entries of a table's types.
use Rattle.std.specs.Prelude.{List, take}
use Rattle.tables.specs.declared.listing.Entry.{Entry}
use Rattle.judge.specs.declared.table.Table.{Table}

-- the entries of the types that the table lists, by number
abbrev pub listed_entries : Table → List Entry
listed_entries t = take t.listing.types t.listing.entries
