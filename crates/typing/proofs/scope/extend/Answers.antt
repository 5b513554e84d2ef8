use Rattle.std.proofs.Common.{◌∙◌, ap, refl, not, ◌&&◌, eqb}
use Rattle.typing.proofs.Scoping.{scopes_push}
use Rattle.typing.proofs.scope.extend.Goals as goal

pub returns-clause-scopes : goal.returns-clause-scopes
returns-clause-scopes c ts Γ A ps t k h =
    scopes_push ts Γ A ps c.args.scope.now _ c.args.code c.args.over c.heavy_bit.result c.entry_of.result.heap_free h k
    (λ v. c.heavy_bit.ensures.has v ∙ ap (λ n. not c.entry_of.result.heap_free && eqb v n) c.len-at.ensures.value)
    c.heavy_bit.ensures.small (c.entry_of.ensures ts A t k).free c.push.ensures.items refl
