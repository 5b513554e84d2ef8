use Rattle.std.proofs.Common.{◌≡◌, sym, ◌∙◌, subst, arith}
use Rattle.std.specs.Bool.{Decides}
use Rattle.std.proofs.lemmas.Bool.{lt-ltb}
use Rattle.typing.proofs.Coding.{alike_few, alike_two, code_eq, codes_tell, coded_length}
use Rattle.typing.proofs.codes.alike.Goals as goal

pub returns-then-len-lt2 : goal.returns-then-len-lt2
returns-then-len-lt2 c l ts As t e h =
    let n = coded_length ts _ As e in
    let m = c.len.ensures.value in
    lt-ltb c.len.result 2 c.if-len-lt2.true ∙ alike_few As (omega arith)

pub returns-else-len-lt2 : goal.returns-else-len-lt2
returns-else-len-lt2 c l ts As t e h =
    let n = coded_length ts _ As e in
    let m = c.len.ensures.value in
    let first = c.code_at.result in
    let second = c.code_at-else-len-lt2.result in
    let d = subst (λ r. Decides r (first ≡ second)) (sym c.eq.ensures) (code_eq first second) in
    codes_tell l ts t c.eq.result first second _ _ (c.code_at.ensures ts As e) (c.code_at-else-len-lt2.ensures ts As e) d ∙ alike_two As (omega arith)
