use Rattle.std.proofs.Common.{get_or, length, sym, ap, ◌∙◌, arith}
use lib.ListN.{length-map}
use Rattle.std.proofs.Math.ListN.{get_or-map}
use Rattle.std.proofs.lemmas.List.{get_or_past}
use Rattle.typing.specs.declared.codes.Code.TheVariants as Code
use Rattle.typing.specs.declared.scope.Variable.{Variable}
use Rattle.typing.proofs.scope.variable_place.Goals as goal

pub returns-in-Some : goal.returns-in-Some
returns-in-Some c ts Γ ps h =
    let n = c.args.number in
    let blank : Variable = record { code = Code.Number; place = 0 } in
    let read = c.in-Some.ensures.lookup.3.1 blank ∙ ap (λ xs. get_or xs n blank) c.as_slice.ensures.value in
    ap (λ (v : Variable). v.place) read ∙ sym (get_or-map (λ (v : Variable). v.place) c.args.scope.now.variables.items n blank) ∙ ap (λ xs. get_or xs n 0) h.places

pub returns-in-None : goal.returns-in-None
returns-in-None c ts Γ ps h =
    let l = c.in-None.ensures.lookup.3 in
    let d = ap length c.as_slice.ensures.value in
    let m = length-map c.args.scope.now.variables.items (λ (v : Variable). v.place) in
    let n = ap length h.places in
    sym (get_or_past ps c.args.number 0 (omega arith))
