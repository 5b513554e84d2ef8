use Rattle.std.proofs.Common.{get_or, ◌++◌, [], ◌∷◌, map, take, sym, subst, arith}
use Rattle.std.proofs.lemmas.List.{map_more}
use Rattle.typing.specs.Codes.{CodedAll}
use Rattle.typing.proofs.Coding.{coded_push}
use Rattle.typing.proofs.codes.codes_of.Goals as goal

pub loop-item-preserved : goal.loop-item-preserved
loop-item-preserved g c =
    let i = c.loop-item.item-index in
    let n = c.push.ensures.len in
    record {
      count = omega arith;
      encodes = λ ts type t.
          let told = subst (λ x. goal.F-post g c.args.code x c.code.result) c.item-item.is c.code.ensures in
          let x = get_or c.args.items.now i c.item-item.result in
          let coded = t.code i c.item-item.result c.loop-item-test.true c.code.result told in
          rw (map_more type c.args.items.now i c.item-item.result c.loop-item-test.true)
          (subst (λ cs. CodedAll ts cs (map type (take i c.args.items.now) ++ type x ∷ [])) (sym c.push.ensures.items) (coded_push ts c.loop-item.row.items (map type (take i c.args.items.now)) c.code.result (type x) (c.loop-item.invariant.encodes ts type t) coded));
    }
