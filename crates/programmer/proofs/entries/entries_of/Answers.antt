use Rattle.std.proofs.Common.{List, take, Option, sym, ap, ◌∙◌, subst}
use Rattle.tables.specs.declared.listing.Entry.{Entry}
use Rattle.tables.specs.declared.listing.Listing.{Listing}
use Rattle.store.specs.Scanning.{Listed}
use Rattle.programmer.specs.Shelved.{entries_in, table_of}
use Rattle.programmer.specs.declared.adopted.Adopted.{Adopted}
use Rattle.programmer.proofs.Listing.{listed}
use Rattle.programmer.proofs.entries.entries_of.Goals as goal

pub returns-in-Some : goal.returns-in-Some
returns-in-Some c =
    let same = c.type_entries.ensures.are ∙ ap (λ (l : Listing). take l.types l.entries) c.listing.ensures in
    record {
      is = same ∙ sym (ap (λ (t : Option Adopted). entries_in (table_of t)) c.in-Some.is);
      few = c.type_entries.ensures.few;
      listed = subst (λ (es : List Entry). Listed es) (sym same) (listed _ c.in-Some.adopted.sound);
    }
