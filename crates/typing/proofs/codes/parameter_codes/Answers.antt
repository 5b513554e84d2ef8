use Rattle.std.proofs.Common.{◌≡◌, map, take, sym, ap, ◌∙◌, subst, arith, rules}
use Rattle.lfpl.specs.Typing.{type_at}
use Rattle.tables.specs.Listed.{Numbers}
use Rattle.typing.specs.Codes.{CodedAll}
use Rattle.typing.proofs.Coding.{numbers_at}
use Rattle.typing.proofs.codes.parameter_codes.Goals as goal

pub returns : goal.returns
returns c ts s t g =
    let few = g.few in
    let all : c.min.result ≡ c.args.signature.arity = omega arith in
    let numbers = subst (λ n. Numbers ts (take n c.args.signature.params)) (sym all) g.numbers in
    subst (CodedAll ts c.codes_of.result.items) (ap (λ n. map (type_at ts) (take n c.args.signature.params)) all ∙ sym g.params)
    (c.codes_of.ensures ts (type_at ts) (record { code = λ i d h code told. let n = numbers_at ts _ i d numbers h in search rules }))
