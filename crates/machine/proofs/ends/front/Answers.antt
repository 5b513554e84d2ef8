use Rattle.std.proofs.lemmas.List.{get_or-take}
use Rattle.machine.proofs.ends.front.Goals as goal

pub returns : goal.returns
returns c k h = rw c.copy_from_slice.ensures.after (get_or-take 16 c.args.words.now k 0 h)
