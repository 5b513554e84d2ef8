use Rattle.typing.proofs.Ruling.{arity_is}
use Rattle.typing.proofs.rules.parts_of.Goals as goal

pub returns-in-Result : goal.returns-in-Result
returns-in-Result c ts fs Γ n b k =
    let known = rw c.in-Result.is at k in
    rw c.in-Result.is (arity_is ts c.signature_of.result _ (c.signature_of.ensures ts fs b known))
