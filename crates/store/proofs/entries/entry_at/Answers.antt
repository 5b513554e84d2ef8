use Rattle.std.proofs.lemmas.List.{get_or_default}
use Rattle.tables.specs.Listed.{no_entry}
use Rattle.store.proofs.entries.entry_at.Goals as goal

pub returns : goal.returns
returns c = get_or_default c.args.entries.now c.args.t _ no_entry c.requires
