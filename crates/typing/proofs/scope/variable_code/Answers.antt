use Rattle.std.proofs.Common.{get_or, length, sym, ap, ◌∙◌, subst, arith}
use Rattle.std.proofs.Math.ListN.{get_or-map}
use Rattle.std.proofs.lemmas.List.{get_or_past}
use Rattle.lfpl.specs.Syntax.{int}
use Rattle.lfpl.specs.Typing.{type_at}
use Rattle.typing.specs.Codes.{Coded}
use Rattle.typing.specs.declared.codes.Code.TheVariants as Code
use Rattle.typing.specs.declared.scope.Variable.{Variable}
use Rattle.typing.proofs.Scoping.{scope_length, variable_at}
use Rattle.typing.proofs.scope.variable_code.Goals as goal

pub returns-in-Some : goal.returns-in-Some
returns-in-Some c ts Γ ps h =
    let n = c.args.number in
    let blank : Variable = record { code = Code.Number; place = 0 } in
    let read = c.in-Some.ensures.lookup.3.1 blank ∙ ap (λ xs. get_or xs n blank) c.as_slice.ensures.value in
    let code = get_or-map (λ (v : Variable). v.code) c.args.scope.now.variables.items n blank ∙ ap (λ (v : Variable). v.code) (sym read) in
    subst (λ x. Coded ts x (type_at Γ n)) code (variable_at ts c.args.scope.now Γ ps n h)

pub returns-in-None : goal.returns-in-None
returns-in-None c ts Γ ps h =
    let l = c.in-None.ensures.lookup.3 in
    let d = ap length c.as_slice.ensures.value in
    let n = scope_length ts c.args.scope.now Γ ps h in
    get_or_past Γ c.args.number int (omega arith)
