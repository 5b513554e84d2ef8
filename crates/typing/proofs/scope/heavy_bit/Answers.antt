use Rattle.std.proofs.lemmas.Nat.{one_shl}
use Rattle.typing.proofs.Masks.{has_one}
use Rattle.typing.proofs.scope.heavy_bit.Goals as goal

pub returns-else-free-clause-has : goal.returns-else-free-clause-has
returns-else-free-clause-has c v = rw (one_shl c.args.at 32 c.requires, c.if-free.false) (has_one c.args.at v)
