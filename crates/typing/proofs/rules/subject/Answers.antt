use Rattle.std.proofs.Common.{subst, sym}
use Rattle.typing.specs.Codes.{Coded}
use Rattle.typing.proofs.rules.subject.Goals as goal

pub returns-in-Result : goal.returns-in-Result
returns-in-Result c ts fs Γ As ps b s e k =
    let known = rw c.in-Result.is at k in
    let g = c.signature_of.ensures ts fs b known in
    rw c.in-Result.is (subst (Coded ts c.code_of-in-Result.result) (sym g.result) (c.code_of-in-Result.ensures ts b.typed g.number))
