use Rattle.std.proofs.Common.{◌∙◌, ap₂}
use Rattle.std.proofs.lemmas.Slice.Eq.{slice_eq-Decides}
use Rattle.std.specs.Cmp.Lexicographic.{pointwise}
use Rattle.typing.proofs.Coding.{code_eq, rows_tell}
use Rattle.typing.specs.contracts.codes.CodePartialEq.TheImpl as equality
use Rattle.typing.proofs.codes.same.Goals as goal

pub returns : goal.returns
returns c l ts As Bs t e f =
    let rows = c.eq.ensures ∙ ap₂ (pointwise equality.eq-value.it) c.as_slice.ensures.value c.as_slice-2.ensures.value in
    rows_tell l ts t c.eq.result _ _ As Bs e f (slice_eq-Decides code_eq _ _ _ rows)
