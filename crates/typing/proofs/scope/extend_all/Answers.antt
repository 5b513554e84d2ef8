use Rattle.std.proofs.Common.{subst, sym, ◌+◌, ◌<◌, List, ◌++◌, length, ap, ◌∙◌, arith}
use Rattle.std.proofs.lemmas.List.{take_all}
use Rattle.lfpl.specs.Syntax.{Ty}
use Rattle.typing.specs.Scopes.{widths, offsets}
use Rattle.typing.specs.Codes.{CodedAll}
use Rattle.typing.proofs.Coding.{coded_at, coded_length}
use Rattle.typing.proofs.Scoping.{next_types, next_places, next_widths, scopes_as}
use Rattle.typing.proofs.scope.extend_all.Goals as goal

pub loop-code-preserved : goal.loop-code-preserved
loop-code-preserved c =
    let k = c.loop-code.code-index in
    let n = c.extend-end.ensures.count in
    let m = c.extend-end.ensures.low in
    record {
      count = omega arith;
      low = omega arith;
      over = λ ts As t e.
          let f = subst (λ cs. CodedAll ts cs As) (sym c.as_slice-code-items.ensures.value) e in
          let z = coded_length ts _ As f in
          let i : k < length As = omega arith in
          c.extend-end.ensures.over ts _ t (coded_at ts _ As k _ f i) ∙ next_widths As k i _ _ (c.loop-code.invariant.over ts As t e);
      scopes = λ ts Γ As ps t e h.
          let f = subst (λ cs. CodedAll ts cs As) (sym c.as_slice-code-items.ensures.value) e in
          let z = coded_length ts _ As f in
          let i : k < length As = omega arith in
          scopes_as ts _ _ _ _ _ (next_types As k i Γ) (next_places As k i ps _ _ (c.loop-code.invariant.over ts As t e))
          (c.extend-end.ensures.scopes ts _ _ _ t (coded_at ts _ As k _ f i) (c.loop-code.invariant.scopes ts Γ As ps t e h));
    }

pub returns : goal.returns
returns c =
    record {
      scopes = λ ts Γ As ps t e h.
          let f = subst (λ cs. CodedAll ts cs As) (sym c.as_slice-code-items.ensures.value) e in
          let z = coded_length ts _ As f in
          let w = take_all c.loop-code.code-index As (omega arith) in
          scopes_as ts _ _ _ _ _ (ap (λ (x : List Ty). Γ ++ x) w) (ap (λ (x : List Ty). ps ++ offsets c.args.over x) w) (c.loop-code.invariant.scopes ts Γ As ps t e h);
      over = λ ts As t e.
          let f = subst (λ cs. CodedAll ts cs As) (sym c.as_slice-code-items.ensures.value) e in
          let z = coded_length ts _ As f in
          let w = take_all c.loop-code.code-index As (omega arith) in
          c.loop-code.invariant.over ts As t e ∙ ap (λ (x : List Ty). c.args.over + widths x) w;
    }
