use Rattle.typing.proofs.rules.wants.Goals as goal

pub returns-in-Result : goal.returns-in-Result
returns-in-Result c ts fs Γ A n b k s h =
    let known = rw c.in-Result.is at k in
    rw c.in-Result.is (c.parameter_codes.ensures ts _ b.typed (c.signature_of.ensures ts fs b known))
