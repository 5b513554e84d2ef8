use Rattle.std.proofs.Common.{map, subst, arith, rules}
use Rattle.std.proofs.lemmas.List.{take_all}
use Rattle.typing.specs.Codes.{CodedAll, slot_type}
use Rattle.typing.proofs.codes.slot_codes.Goals as goal

pub returns : goal.returns
returns c ts A t h few =
    let all = take_all c.min.result c.args.asked.now (omega arith) in
    subst (λ xs. CodedAll ts c.codes_of.result.items (map (slot_type A) xs)) all
    (c.codes_of.ensures ts (slot_type A) (record { code = λ i d k code told. search rules }))
