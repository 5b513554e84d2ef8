-- What reading a table answers.
use Rattle.std.specs.Prelude.{◌≡◌, ℕ, List, Ok, Err, Result}
use Rattle.codec.specs.Reading.{done, refused}
use Rattle.codec.specs.declared.fault.Fault.{Fault}
use Rattle.codec.specs.declared.fault.Part.TheVariants.{Table}
use Rattle.lfpl.specs.Syntax.{Program}
use Rattle.lfpl.specs.Reading.{scanned_table}
use Rattle.tables.specs.Listed.{Holds}
use Rattle.tables.specs.declared.listing.Listing.{Listing}

-- Where the bytes spell a program, the listing holds it; else the fault is the first refusal, at its place, and concerns a table.
abbrev pub Reads : List ℕ → Result Listing Fault → Type 0
Reads bs (Ok l) = (p : Program) × (q : ℕ) × (scanned_table bs ≡ done p q) × Holds l p
Reads bs (Err f) = (scanned_table bs ≡ refused f.refusal f.place) × (f.part ≡ Table)
