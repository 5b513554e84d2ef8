use Rattle.std.proofs.Common.{◌≡◌, Bool, not, [], sym, refl, ap, ◌∙◌, subst, arith}
use Rattle.std.proofs.lemmas.Result.{err_from_is_err_and}
use Rattle.std.proofs.lemmas.Bool.{not-true, not-false}
use Rattle.lfpl.proofs.SameTypes.{same_eq}
use Rattle.lfpl.specs.Judge.{Verdict, ◌>>=◌, demand}
use Rattle.codec.specs.declared.fault.Refusal.TheVariants.{TypeFault}
use Rattle.lfpl.specs.Syntax.{Ty, same_ty}
use Rattle.typing.specs.Codes.{Coded}
use Rattle.typing.specs.contracts.codes.CodePartialEq.TheImpl as equality
use Rattle.typing.proofs.Coding.{code_eq, coded_length, codes_tell}
use Rattle.typing.proofs.Ruling.{arity_is}
use Rattle.judge.proofs.Passing.{row_narrow, faulted_by, body_noted}
use Rattle.judge.proofs.judge.judge_body.Goals as goal

pub judge-requires : goal.judge-requires
judge-requires c =
    let q = c.requires.posed in
    let P = q.is in
    let K = c.parameter_codes-params.ensures q.ts _ P.basis.typed P.signs in
    let n = row_narrow c.args.listing.now q.ts P.basis.typed _ q.g.params K in
    let f = P.signs.few in
    let a = arity_is q.ts _ _ P.signs in
    let m = coded_length q.ts _ q.g.params K in
    let o = c.extend_all-over.ensures.over q.ts q.g.params P.basis.typed K in
    let I = c.extend_all-over.ensures.scopes q.ts [] q.g.params [] P.basis.typed K (c.no_variables-scope.ensures.scopes q.ts) in
    record { long = c.requires.long; low = omega arith; posed = record { ts = q.ts; fs = q.fs; Γ = q.g.params; ps = _; e = q.g.body; j = q.j; is = record { basis = P.basis; scope = I; stands = P.stands } } }

pub returns-in_err-found : goal.returns-in_err-found
returns-in_err-found c ts fs g j P =
    let K = c.parameter_codes-params.ensures ts _ P.basis.typed P.signs in
    let I = c.extend_all-over.ensures.scopes ts [] g.params [] P.basis.typed K (c.no_variables-scope.ensures.scopes ts) in
    let p = err_from_is_err_and c.from_residual.result c.from_residual.ensures.1 in
    rw (p.1, p.2) (faulted_by (c.in_err-found.ensures ts fs g.params _ g.body j (record { basis = P.basis; scope = I; stands = P.stands }))
    (λ w i e. ap (λ (v : Verdict Ty). v >>= λ A. demand (same_ty A g.result) TypeFault c.args.at tt) e))

pub returns-then-ne : goal.returns-then-ne
returns-then-ne c ts fs g j P =
    let K = c.parameter_codes-params.ensures ts _ P.basis.typed P.signs in
    let I = c.extend_all-over.ensures.scopes ts [] g.params [] P.basis.typed K (c.no_variables-scope.ensures.scopes ts) in
    let A = c.in_ok-found.ensures ts fs g.params _ g.body j (record { basis = P.basis; scope = I; stands = P.stands }) in
    let r = subst (Coded ts c.code_of-result.result) (sym P.signs.result) (c.code_of-result.ensures ts P.basis.typed P.signs.number) in
    let e : c.ne.result ≡ not (equality.eq-value.it c.in_ok-found.found.code c.code_of-result.result) = c.ne.ensures in
    let s = sym (codes_tell c.args.listing.now ts P.basis.typed _ _ _ A.type g.result A.code r (code_eq _ _)) ∙ not-true _ (sym e ∙ c.if-ne.true) in
    rw c.fault.ensures (record {
      verdict = ap (λ (v : Verdict Ty). v >>= λ A. demand (same_ty A g.result) TypeFault c.args.at tt) A.typed ∙ ap (λ (b : Bool). demand b TypeFault c.args.at tt) s;
      part = refl;
    })

pub returns : goal.returns
returns c ts fs g j P =
    let K = c.parameter_codes-params.ensures ts _ P.basis.typed P.signs in
    let I = c.extend_all-over.ensures.scopes ts [] g.params [] P.basis.typed K (c.no_variables-scope.ensures.scopes ts) in
    let A = c.in_ok-found.ensures ts fs g.params _ g.body j (record { basis = P.basis; scope = I; stands = P.stands }) in
    let r = subst (Coded ts c.code_of-result.result) (sym P.signs.result) (c.code_of-result.ensures ts P.basis.typed P.signs.number) in
    let e : c.ne.result ≡ not (equality.eq-value.it c.in_ok-found.found.code c.code_of-result.result) = c.ne.ensures in
    let s = sym (codes_tell c.args.listing.now ts P.basis.typed _ _ _ A.type g.result A.code r (code_eq _ _)) ∙ not-false _ (sym e ∙ c.if-ne.false) in
    let o = c.extend_all-over.ensures.over ts g.params P.basis.typed K in
    record {
      typed = ap (λ (v : Verdict Ty). v >>= λ A. demand (same_ty A g.result) TypeFault c.args.at tt) A.typed ∙ ap (λ (b : Bool). demand b TypeFault c.args.at tt) s;
      ends = A.ends;
      noted = body_noted ts fs _ g.body c.args.at g.params 0 c.extend_all-over.result A.type g.result refl (omega arith) (same_eq A.type g.result s) A.noted;
      earlier = A.earlier;
    }
